use Rattle.std.proofs.Common.{◌≡◌, map, string_bytes}
use Rattle.std.specs.Prelude.{take}
use Rattle.run_words.specs.Words.{named}
use Rattle.run_words.proofs.given.named.Given as goal

abbrev pub invariant-words : goal.invariant-words
invariant-words l = map (λ s. s.now) l.named.items ≡ named (map string_bytes (take l.word-index l.words))
