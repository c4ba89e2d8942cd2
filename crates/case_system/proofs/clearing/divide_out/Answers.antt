use Rattle.std.proofs.Common.{rules, refl}
use Rattle.case_system.proofs.BeingCleared.{begun, passed_at, divided_at, cleared_at_last}
use Rattle.case_system.proofs.Joining.{grows_on, grows_none}
use Rattle.case_system.proofs.clearing.divide_out.Goals as goal

pub divisions-init : goal.divisions-init
divisions-init c = record { cleared = begun _ _ _; grows = grows_none _ }

pub divisions-preserved : goal.divisions-preserved
divisions-preserved c = record {
  cleared = divided_at _ _ _ _ _ _ _ _ _ _ _ refl c.divisions.invariant.cleared (search rules) (search rules) (search rules);
  grows = grows_on _ _ _ c.divisions.invariant.grows (search rules);
}

pub returns-clause-cleared : goal.returns-clause-cleared
returns-clause-cleared c = cleared_at_last _ _ _ _ _ _ refl (passed_at _ _ _ _ _ _ _ _ refl c.divisions.invariant.cleared (search rules))
