-- Packed terms and shares, and what they stand for where each word is read as a monomial.
use Rattle.std.specs.Prelude.{◌≡◌, ◌<◌, ◌≤◌, ◌↔◌, ℕ, ◌+◌, Bool, ◌*ℤ◌, unsigned_abs, List, [], ◌∷◌, length}
use Rattle.std.proofs.Common.{le_refl}
use Rattle.std.specs.declared.option.Option.{Option}
use Rattle.std.specs.declared.option.Option.TheVariants.{None, Some}
use Rattle.std.specs.List.{AllByRecursion}
use Rattle.monomial.specs.Monomials.{monomial_times}
use Rattle.sparse_poly.specs.declared.Term.{Term}
use Rattle.sparse_poly.specs.declared.entry.Share.{Share}
use Rattle.sparse_poly.specs.declared.packed_entry.PackedTerm.{PackedTerm}
use Rattle.sparse_poly.specs.declared.packed_entry.PackedShare.{PackedShare}
use Rattle.sparse_poly.specs.Contributions.{signed, kept, signed_row, signed_products}
use Rattle.sparse_poly.specs.Standing.{ssum, sweight, Agree, Stands, StandsForBoth}
use Rattle.monomial.specs.Layouts.{AreFalling, word_of, monomial_of, FitsLayout}

-- a way to read words
abbrev pub Reading : Type 0
Reading = ℕ → List (ℕ × ℕ)

abbrev pub term_read : Reading → PackedTerm → Term
term_read r t = record { monomial = r t.word; coeff = t.coeff }

abbrev pub terms_read : Reading → List PackedTerm → List Term
terms_read r [] = []
terms_read r (t ∷ ts) = term_read r t ∷ terms_read r ts

abbrev pub share_read : Reading → PackedShare → Share
share_read r s = record { monomial = r s.word; sum = s.sum; weight = s.weight; within = s.within }

abbrev pub shares_read : Reading → List PackedShare → List Share
shares_read r [] = []
shares_read r (s ∷ ss) = share_read r s ∷ shares_read r ss

-- the words of terms and of shares
abbrev pub term_words : List PackedTerm → List ℕ
term_words [] = []
term_words (t ∷ ts) = t.word ∷ term_words ts

abbrev pub share_words : List PackedShare → List ℕ
share_words [] = []
share_words (s ∷ ss) = s.word ∷ share_words ss

-- the sum of the words of two terms is read as the product of their monomials
abbrev pub AreProducts : Reading → List PackedTerm → List PackedTerm → Type 0
AreProducts r ts us = AllByRecursion (λ (t : PackedTerm). AllByRecursion (λ (u : PackedTerm). r (t.word + u.word) ≡ monomial_times (r t.word) (r u.word)) us) ts

-- the word of a packed term is that of its monomial, which fits the layout
pub record IsPackedIn (vs : List ℕ) (t : PackedTerm) : Type 0 where
  pub word : t.word ≡ word_of vs (monomial_of vs t.word)
  pub fits : FitsLayout vs (monomial_of vs t.word)

abbrev pub AllPackedIn : List ℕ → List PackedTerm → Type 0
AllPackedIn vs ts = AllByRecursion (λ (t : PackedTerm). IsPackedIn vs t) ts

-- the packed terms of a list whose terms all fit a layout
pub record IsPackedList (vs : List ℕ) (ts : List Term) (ps : List PackedTerm) : Type 0 where
  pub terms : terms_read (monomial_of vs) ps ≡ ts
  pub words : AllPackedIn vs ps

-- each word is below a bound, and twice each word is
abbrev pub AllUnder : ℕ → List ℕ → Type 0
AllUnder n ws = AllByRecursion (λ w. w < n) ws

abbrev pub AllHalves : ℕ → List ℕ → Type 0
AllHalves n ws = AllByRecursion (λ w. w + w < n) ws

-- words with one word added to each
abbrev pub raised : ℕ → List ℕ → List ℕ
raised w [] = []
raised w (v ∷ vs) = (w + v) ∷ raised w vs

-- the share of the contribution of two terms, with its sum as it is kept
abbrev pub row_share : Bool → PackedTerm → PackedTerm → PackedShare
row_share minus t u = record { word = t.word + u.word; sum = kept (signed minus (t.coeff *ℤ u.coeff)); weight = unsigned_abs (kept (signed minus (t.coeff *ℤ u.coeff))); within = le_refl (unsigned_abs (kept (signed minus (t.coeff *ℤ u.coeff)))) }

-- the shares of one term, in the order of the others
abbrev pub row_shares : Bool → PackedTerm → List PackedTerm → List PackedShare
row_shares minus t [] = []
row_shares minus t (u ∷ us) = row_share minus t u ∷ row_shares minus t us

-- the contributions of one term, in the order of the terms
pub record IsPackedRow (minus : Bool) (t : PackedTerm) (us : List PackedTerm) (ss : List PackedShare) : Type 0 where
  pub sums : (r : Reading) → AreProducts r (t ∷ []) us → Stands (shares_read r ss) (signed_row minus (term_read r t) (terms_read r us))
  pub words : share_words ss ≡ raised t.word (term_words us)

-- the contributions to a product, falling
pub record IsPackedProduct (minus : Bool) (ts us : List PackedTerm) (ss : List PackedShare) : Type 0 where
  pub sums : (r : Reading) → AreProducts r ts us → Stands (shares_read r ss) (signed_products minus (terms_read r ts) (terms_read r us))
  pub falling : AreFalling (term_words us) → AreFalling (share_words ss)
  pub under : (n : ℕ) → AllHalves n (term_words ts) → AllHalves n (term_words us) → AllUnder n (share_words ss)

-- falling shares that add up to the sums of two falling lists
pub record IsPackedMerge (xs ys zs : List PackedShare) : Type 0 where
  pub both : (r : Reading) → StandsForBoth (shares_read r zs) (shares_read r xs) (shares_read r ys)
  pub falling : AreFalling (share_words xs) → AreFalling (share_words ys) → AreFalling (share_words zs)
  pub under : (n : ℕ) → AllUnder n (share_words xs) → AllUnder n (share_words ys) → AllUnder n (share_words zs)

-- shares that stand for the contributions to a product
pub record AreProductShares (minus : Bool) (ts us : List PackedTerm) (ss : List PackedShare) : Type 0 where
  pub sums : (r : Reading) → AreProducts r ts us → Stands (shares_read r ss) (signed_products minus (terms_read r ts) (terms_read r us))
  pub under : (n : ℕ) → AllHalves n (term_words ts) → AllHalves n (term_words us) → AllUnder n (share_words ss)

-- shares with the same sums as others, no more of them, and of no greater words
pub record IsSameInFewer (new old : List PackedShare) : Type 0 where
  pub sums : (r : Reading) (m : List (ℕ × ℕ)) → Agree (sweight (shares_read r new) m) (ssum (shares_read r new) m) (sweight (shares_read r old) m) (ssum (shares_read r old) m)
  pub fewer : length new ≤ length old
  pub under : (n : ℕ) → AllUnder n (share_words old) → AllUnder n (share_words new)

-- the greatest word of shares: all words are below a number exactly if it is
abbrev pub IsGreatestWord : List PackedShare → Option ℕ → Type 0
IsGreatestWord ss (Some w) = (n : ℕ) → AllUnder n (share_words ss) ↔ (w < n)
IsGreatestWord ss None = ss ≡ []

-- s was taken from shares of which none is above it, and what is left is below it
pub record IsPackedTaken (old new : List PackedShare) (s : PackedShare) : Type 0 where
  pub same : IsSameInFewer (s ∷ new) old
  pub above : (n : ℕ) → s.word < n → AllUnder n (share_words old)
  pub below : AllUnder s.word (share_words new)

-- the next of some shares
abbrev pub IsPackedNext : List PackedShare → List PackedShare → Option PackedShare → Type 0
IsPackedNext old new (Some s) = IsPackedTaken old new s
IsPackedNext old new None = (old ≡ []) × (new ≡ [])
