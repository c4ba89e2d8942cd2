use Rattle.ring_file.specs.Files.{is_entry_name}
use Rattle.ring_file.proofs.Names.{has_only_of_keys}
use Rattle.ring_file.proofs.symbols.has_entry_names.Goals as goal

pub returns-in-Some : goal.returns-in-Some
returns-in-Some c = has_only_of_keys is_entry_name c.args.value.now c.in-Some.members.now.entries _ c.in-Some.ensures c.are_entry_names.ensures
