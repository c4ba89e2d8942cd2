-- Words ask for one list of settings.
use Rattle.std.specs.Prelude.{◌≡◌, ◌<◌, ◌^◌, ℕ, Option, None, Some, List}
use Rattle.std.proofs.Common.{sym, ◌∙◌, ap, arith}
use Rattle.std.proofs.lemmas.Fmt.{decimal_injective}
use Rattle.clap.specs.Words.{Text}
use Rattle.run_words.specs.Words.{IsNumberText, IsNumberOf, IsMadeBy, IsSettings, IsUsageFault}
use Rattle.run_words.specs.declared.settings.Made.{Made}
use Rattle.run_words.specs.declared.settings.Made.TheVariants.{Cyclic, Cube}
use Rattle.run_words.specs.declared.settings.Settings.{Settings}
use Rattle.run_words.specs.declared.settings.UsageKind.{UsageKind}
use Rattle.run_words.specs.declared.settings.UsageKind.TheVariants.{Words, Workers, Budget, Make, Summary}

same_text : (least most : ℕ) (text : Text) (m n : ℕ) → most < 2 ^ 64 → IsNumberText least most text m → IsNumberText least most text n → m ≡ n
same_text least most text m n small p q =
    let a = p.at_most in
    let b = q.at_most in
    decimal_injective m n (omega (arith, a)) (omega (arith, b)) (sym p.spelled ∙ q.spelled)

same_number : (least most default : ℕ) (o : Option Text) (m n : ℕ) → most < 2 ^ 64 → IsNumberOf least most default o m → IsNumberOf least most default o n → m ≡ n
same_number least most default None m n small p q = p ∙ sym q
same_number least most default (Some text) m n small p q = same_text least most text m n small p q

same_made : (cyclic cube : Option Text) (a b : Option Made) → IsMadeBy cyclic cube a → IsMadeBy cyclic cube b → a ≡ b
same_made None None a b p q = p ∙ sym q
same_made (Some text) None a b p q = p.2 ∙ ap (λ n. Some (Cyclic n)) (same_text 1 12 text p.0 q.0 (omega arith) p.1 q.1) ∙ sym q.2
same_made None (Some text) a b p q = p.2 ∙ ap (λ n. Some (Cube n)) (same_text 0 3 text p.0 q.0 (omega arith) p.1 q.1) ∙ sym q.2
same_made (Some text) (Some other) a b p q = absurd p

abbrev made_up : ℕ → ℕ → Settings → Option Made → Settings
made_up workers budget s made = record { workers = workers; budget = budget; summary = s.summary; made = made }

pub same_settings : (words : List Text) (s t : Settings) → IsSettings words s → IsSettings words t → s ≡ t
same_settings words s t p q =
    let a = p.asks in
    let b = q.asks in
    ap (λ n. made_up n s.budget s s.made) (same_number 1 64 1 _ s.workers t.workers (omega arith) a.workers b.workers)
    ∙ ap (λ n. made_up t.workers n s s.made) (same_number 0 1000000 2000 _ s.budget t.budget (omega arith) a.budget b.budget)
    ∙ ap (λ m. made_up t.workers t.budget s m) (same_made _ _ s.made t.made a.made b.made)
    ∙ ap (λ f. record t { summary = f }) (a.summary ∙ sym b.summary)

pub not_both : (words : List Text) (s : Settings) (kind : UsageKind) → IsSettings words s → IsUsageFault words kind → ⊥
not_both words s Words p f = f p.takes
not_both words s Workers p f = f.fault s.workers p.asks.workers
not_both words s Budget p f = f.fault.2 s.budget p.asks.budget
not_both words s Make p f = f.fault.4 s.made p.asks.made
not_both words s Summary p f =
    let w = f.fault in
    let a = p.asks in
    w.7 (same_number 1 64 1 _ w.0 s.workers (omega arith) w.1 a.workers ∙ a.alone (a.summary ∙ w.6))
