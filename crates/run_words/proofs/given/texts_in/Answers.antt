use Rattle.std.specs.Prelude.{Bool}
use Rattle.std.proofs.Common.{◌∙◌, ap}
use Rattle.clap.specs.Words.{found_of}
use Rattle.run_words.proofs.Parsed.{five, read_in}
use Rattle.run_words.specs.Texts.{texts_of}
use Rattle.run_words.proofs.given.texts_in.Goals as goal

pub returns : goal.returns
returns c =
    let t = texts_of (record { workers = c.get_str.result; budget = c.get_str-2.result; summary = c.is_given.result; cyclic = c.get_str-4.result; cube = c.get_str-5.result }) in
    ap (λ (b : Bool). five t.workers t.budget b t.cyclic t.cube) c.is_given.ensures
    ∙ read_in (found_of c.args.matches.now) _ _ _ _ _ c.get_str.ensures c.get_str-2.ensures c.get_str-3.ensures c.get_str-4.ensures c.get_str-5.ensures
