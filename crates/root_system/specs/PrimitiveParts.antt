-- The primitive parts of polynomials, without zero.
use Rattle.std.specs.Prelude.{◌≡◌, ◌≢◌, ◌⊎◌, List, [], Contains}
use Rattle.sparse_poly.specs.declared.Term.{Term}
use Rattle.sparse_poly.specs.Primitive.{IsPrimitivePart}

-- q is not zero, and is the primitive part of one of the polynomials
pub record IsPartOf (ps : List (List Term)) (q : List Term) : Type 0 where
  pub nonzero : q ≢ []
  pub poly : List Term
  pub is : Contains ps poly
  pub part : IsPrimitivePart poly q

-- the primitive part of p is zero or in the list
pub record HasPartIn (qs : List (List Term)) (p : List Term) : Type 0 where
  pub part : List Term
  pub is : IsPrimitivePart p part
  pub listed : (part ≡ []) ⊎ Contains qs part

-- the list has the primitive parts of the polynomials but zero, in any order and any number of times: each member is one, and each is a member
pub record ArePrimitiveParts (ps qs : List (List Term)) : Type 0 where
  pub each : (q : List Term) → Contains qs q → IsPartOf ps q
  pub all : (p : List Term) → Contains ps p → HasPartIn qs p
