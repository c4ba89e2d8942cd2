-- What stands before a place of a text.
pub data State : Type 0 where
  -- nothing
  Start : State
  -- a sign
  Signed : State
  -- the text `0`
  Zero : State
  -- the coefficient 1, or the first digit of a longer one
  One : State
  -- the digits of another coefficient
  Coefficient : State
  -- a `*`
  Times : State
  -- the `x` of a factor
  Letter : State
  -- the variable 0
  VariableZero : State
  -- the digits of another variable
  Variable : State
  -- a `^`
  Caret : State
  -- a factor whose exponent is 0
  FactorEnd : State
  -- the digits of another exponent
  Exponent : State
  -- no text of the form begins so
  Wrong : State
