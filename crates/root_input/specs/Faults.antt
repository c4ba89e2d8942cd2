-- What the refusals of the stages become.
use Rattle.braid_io.specs.declared.whole.ReadStop.{ReadStop}
use Rattle.braid_io.specs.declared.whole.ReadStop.TheVariants.{Fault, TooLong as long, OutOfMemory as no_read_memory}
use Rattle.ring_file.specs.declared.problem.ProblemFault.{ProblemFault}
use Rattle.ring_file.specs.declared.problem.ProblemFault.TheVariants.{OutOfMemory as no_problem_memory}
use Rattle.root_system.specs.declared.root.RootFault.{RootFault}
use Rattle.root_system.specs.declared.root.RootFault.TheVariants.{TooManyUnknowns as many_unknowns, TooManyEquations as many_equations, OutOfMemory as no_root_memory}
use Rattle.root_input.specs.declared.fault.RootStop.{RootStop}
use Rattle.root_input.specs.declared.fault.RootStop.TheVariants as stop
use Rattle.root_input.specs.declared.fault.InputFault.{InputFault}
use Rattle.root_input.specs.declared.fault.InputFault.TheVariants.{ReadFault, TooLong, Problem, TooManyUnknowns, TooManyEquations, OutOfMemory}

-- where the bytes state no problem
abbrev pub problem_stop : ProblemFault → RootStop
problem_stop no_problem_memory = stop.OutOfMemory
problem_stop fault = stop.Problem fault

-- where the problem has no root
abbrev pub root_stop : RootFault → RootStop
root_stop (many_unknowns count) = stop.TooManyUnknowns count
root_stop (many_equations count) = stop.TooManyEquations count
root_stop no_root_memory = stop.OutOfMemory

-- where the source was not read to its end
abbrev pub read_fault : ReadStop → InputFault
read_fault Fault = ReadFault
read_fault long = TooLong
read_fault no_read_memory = OutOfMemory

-- where its bytes have no root
abbrev pub input_fault : RootStop → InputFault
input_fault (stop.Problem fault) = Problem fault
input_fault (stop.TooManyUnknowns count) = TooManyUnknowns count
input_fault (stop.TooManyEquations count) = TooManyEquations count
input_fault stop.OutOfMemory = OutOfMemory
