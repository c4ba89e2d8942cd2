-- Some bytes have at most one answer: one value, one file, and one ring, and a fault says which step fails.
use Rattle.std.specs.Prelude.{◌≡◌, ◌≢◌, ℕ, Some, List, refl}
use Rattle.std.proofs.Common.{◌∙◌, ap, sym as back}
use Rattle.serde_json.specs.Data.{Data}
use Rattle.fusion_ring.specs.declared.Triple.{Triple}
use Rattle.fusion_ring.specs.Fusion.{Fusion}
use Rattle.fusion_ring.proofs.Answered.{no_fault as no_ring_fault, one_fault as one_ring_fault, one_ring}
use Rattle.symbol_index.specs.declared.Symbol.{Symbol}
use Rattle.symbol_index.specs.declared.GaugeEntry.{GaugeEntry}
use Rattle.ring_file.specs.Problems.{Stated}
use Rattle.ring_file.specs.Files.{File, IsFile, checks, first_failing}
use Rattle.ring_file.specs.Reading.{IsReading, HasNumber, NamesUnknown, IsProblemOfFile, IsFileFault, IsProblemOf, HasFileFault, IsProblemFault}
use Rattle.ring_file.specs.declared.problem.ProblemFault.{ProblemFault}
use Rattle.ring_file.specs.declared.problem.ProblemFault.TheVariants.{NotJson, Shape, Ring, GaugeNumber, GaugeSymbol, OutOfMemory}
use Rattle.ring_file.proofs.Alone.{same_items, same_gauge, one_first, all_or_first, gauge_numbers, gauge_symbols}

one_reading : (bytes : List ℕ) (d e : Data) → IsReading bytes d → IsReading bytes e → d ≡ e
one_reading bytes d e h k = cc (h.1, k.1)

file_parts : (l m : ℕ) (ps qs : List Triple) (gs hs : List (Symbol × List ℕ)) → l ≡ m → ps ≡ qs → gs ≡ hs → ◌≡◌ {A = File} (record { labels = l; products = ps; gauge = gs }) (record { labels = m; products = qs; gauge = hs })
file_parts l m ps qs gs hs e f g = cc

one_file : (d : Data) (f g : File) → IsFile d f → IsFile d g → f ≡ g
one_file d f g h k =
    let l : f.labels ≡ g.labels = cc (h.labels, k.labels) in
    file_parts f.labels g.labels f.products g.products f.gauge g.gauge l (same_items f.products g.products (back h.products ∙ k.products)) (same_items f.gauge g.gauge (back h.gauge ∙ k.gauge))

-- ---- what a file states

module _ (file : File) where
  stated_parts : (r s : Fusion) (xs ys : List GaugeEntry) → r ≡ s → xs ≡ ys → ◌≡◌ {A = Stated} (record { ring = r; gauge = xs }) (record { ring = s; gauge = ys })
  stated_parts r s xs ys e f = cc

  one_problem_of_file : (p q : Stated) → IsProblemOfFile file p → IsProblemOfFile file q → p ≡ q
  one_problem_of_file p q h k =
      let e : p.ring ≡ q.ring = one_ring file.labels file.products p.ring q.ring h.ring k.ring in
      stated_parts p.ring q.ring p.gauge q.gauge e (same_gauge p.ring p.gauge q.gauge h.valid (rw e k.valid) (back h.gauge ∙ k.gauge))

  no_file_fault : (p : Stated) (fault : ProblemFault) → IsProblemOfFile file p → IsFileFault file fault → fault ≡ OutOfMemory
  no_file_fault p NotJson h k = absurd k
  no_file_fault p (Shape place) h k = absurd k
  no_file_fault p (Ring fault) h k = absurd (k.1 (no_ring_fault file.labels file.products p.ring fault h.ring k.0))
  no_file_fault p (GaugeNumber entry) h k = absurd (all_or_first HasNumber file.gauge entry (rw h.gauge (gauge_numbers p.ring p.gauge h.valid)) k.2)
  no_file_fault p (GaugeSymbol entry) h k =
      let e : k.0 ≡ p.ring = one_ring file.labels file.products k.0 p.ring k.1 h.ring in
      absurd (all_or_first (NamesUnknown k.0) file.gauge entry (rw (h.gauge, e) (gauge_symbols p.ring p.gauge h.valid)) k.3)
  no_file_fault p OutOfMemory h k = refl

  one_file_fault : (first second : ProblemFault) → IsFileFault file first → IsFileFault file second → first ≢ OutOfMemory → second ≢ OutOfMemory → first ≡ second
  one_file_fault NotJson second h k y z = absurd h
  one_file_fault (Shape place) second h k y z = absurd h
  one_file_fault OutOfMemory second h k y z = absurd (y refl)
  one_file_fault first NotJson h k y z = absurd k
  one_file_fault first (Shape place) h k y z = absurd k
  one_file_fault first OutOfMemory h k y z = absurd (z refl)
  one_file_fault (Ring a) (Ring b) h k y z = ap Ring (one_ring_fault file.labels file.products a b h.0 k.0 h.1 k.1)
  one_file_fault (Ring a) (GaugeNumber j) h k y z = absurd (h.1 (no_ring_fault file.labels file.products k.0 a k.1 h.0))
  one_file_fault (Ring a) (GaugeSymbol j) h k y z = absurd (h.1 (no_ring_fault file.labels file.products k.0 a k.1 h.0))
  one_file_fault (GaugeNumber i) (Ring b) h k y z = absurd (k.1 (no_ring_fault file.labels file.products h.0 b h.1 k.0))
  one_file_fault (GaugeNumber i) (GaugeNumber j) h k y z = ap GaugeNumber (one_first HasNumber file.gauge i j h.2 k.2)
  one_file_fault (GaugeNumber i) (GaugeSymbol j) h k y z = absurd (all_or_first HasNumber file.gauge i k.2 h.2)
  one_file_fault (GaugeSymbol i) (Ring b) h k y z = absurd (k.1 (no_ring_fault file.labels file.products h.0 b h.1 k.0))
  one_file_fault (GaugeSymbol i) (GaugeNumber j) h k y z = absurd (all_or_first HasNumber file.gauge j h.2 k.2)
  one_file_fault (GaugeSymbol i) (GaugeSymbol j) h k y z =
      let e : h.0 ≡ k.0 = one_ring file.labels file.products h.0 k.0 h.1 k.1 in
      ap GaugeSymbol (one_first (NamesUnknown h.0) file.gauge i j h.3 (rw e k.3))

-- ---- what some bytes state

module _ (bytes : List ℕ) where
  same_file : (d e : Data) (f g : File) → IsReading bytes d → IsReading bytes e → IsFile d f → IsFile e g → f ≡ g
  same_file d e f g h k i j = one_file d f g i (rw (one_reading bytes d e h k) j)

  pub one_problem : (p q : Stated) → IsProblemOf bytes p → IsProblemOf bytes q → p ≡ q
  one_problem p q h k =
      let e : h.file ≡ k.file = same_file h.json k.json h.file k.file h.reading k.reading h.is_file k.is_file in
      one_problem_of_file h.file p q h.problem (rw e k.problem)

  not_both : (d e : Data) (file : File) (place : _) → IsReading bytes d → IsReading bytes e → IsFile d file → ¬ first_failing (checks e) ≡ Some place
  not_both d e file place h k i f = let q : d ≡ e = one_reading bytes d e h k in absurd (cc (i.form, f, ap (λ x. first_failing (checks x)) q))

  stated_fault : (p : Stated) (fault : ProblemFault) → IsProblemOf bytes p → HasFileFault bytes fault → fault ≡ OutOfMemory
  stated_fault p fault h k =
      let e : h.file ≡ k.file = same_file h.json k.json h.file k.file h.reading k.reading h.is_file k.is_file in
      no_file_fault h.file p fault h.problem (rw e k.is_fault)

  pub no_fault : (p : Stated) (fault : ProblemFault) → IsProblemOf bytes p → IsProblemFault bytes fault → fault ≡ OutOfMemory
  no_fault p NotJson h k = absurd (k h.json h.reading)
  no_fault p (Shape place) h k = absurd (not_both h.json k.0 h.file place h.reading k.1 h.is_file k.2)
  no_fault p (Ring fault) h k = stated_fault p (Ring fault) h k
  no_fault p (GaugeNumber entry) h k = stated_fault p (GaugeNumber entry) h k
  no_fault p (GaugeSymbol entry) h k = stated_fault p (GaugeSymbol entry) h k
  no_fault p OutOfMemory h k = refl

  one_stated_fault : (first second : ProblemFault) → HasFileFault bytes first → HasFileFault bytes second → first ≢ OutOfMemory → second ≢ OutOfMemory → first ≡ second
  one_stated_fault first second h k y z =
      let e : h.file ≡ k.file = same_file h.json k.json h.file k.file h.reading k.reading h.is_file k.is_file in
      one_file_fault h.file first second h.is_fault (rw e k.is_fault) y z

  -- the file is there, and states this fault
  no_json : (fault : ProblemFault) → HasFileFault bytes fault → ¬ ((d : Data) → ¬ IsReading bytes d)
  no_json fault h k = k h.json h.reading

  no_shape : (fault : ProblemFault) (place : _) → HasFileFault bytes fault → ¬ IsProblemFault bytes (Shape place)
  no_shape fault place h k = not_both h.json k.0 h.file place h.reading k.1 h.is_file k.2

  pub one_fault : (first second : ProblemFault) → IsProblemFault bytes first → IsProblemFault bytes second → first ≢ OutOfMemory → second ≢ OutOfMemory → first ≡ second
  one_fault OutOfMemory second h k y z = absurd (y refl)
  one_fault first OutOfMemory h k y z = absurd (z refl)
  one_fault NotJson NotJson h k y z = refl
  one_fault NotJson (Shape place) h k y z = absurd (h k.0 k.1)
  one_fault NotJson second h k y z = absurd (no_json second k h)
  one_fault (Shape place) NotJson h k y z = absurd (k h.0 h.1)
  one_fault (Shape place) (Shape other) h k y z =
      let q : h.0 ≡ k.0 = one_reading bytes h.0 k.0 h.1 k.1 in
      ap Shape (cc (h.2, k.2, ap (λ x. first_failing (checks x)) q))
  one_fault (Shape place) second h k y z = absurd (no_shape second place k h)
  one_fault first NotJson h k y z = absurd (no_json first h k)
  one_fault first (Shape place) h k y z = absurd (no_shape first place h k)
  one_fault first second h k y z = one_stated_fault first second h k y z
