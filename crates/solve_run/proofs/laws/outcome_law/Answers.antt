use Rattle.solve_run.proofs.Told.{AreToldApart, usage_ends, refusal_ends, search_ends}
use Rattle.solve_run.proofs.laws.outcome_law.Goals as goal

pub returns-clause-usage : goal.returns-clause-usage
returns-clause-usage g c words source sink kind status fault ends =
    let words_law = c.settings_law.ensures in
    let reading = c.reading_law.ensures in
    let stop = c.root_stop_law.ensures in
    let root = c.root_answer_law.ensures in
    let laws : AreToldApart = record { one_settings = words_law.one; not_both = words_law.not_both; one_usage = words_law.one_fault; read = reading.read; over = reading.over; no_stop = stop.no_stop; one_stop = stop.one_stop; one_made = c.made_law.ensures; no_root_fault = root.no_fault; one_root_fault = root.one_fault } in
    usage_ends _ words source sink kind status laws fault ends

pub returns-clause-refused : goal.returns-clause-refused
returns-clause-refused g c words settings source sink other bytes asked status are well tells refused apart ends =
    let words_law = c.settings_law.ensures in
    let reading = c.reading_law.ensures in
    let stop = c.root_stop_law.ensures in
    let root = c.root_answer_law.ensures in
    let laws : AreToldApart = record { one_settings = words_law.one; not_both = words_law.not_both; one_usage = words_law.one_fault; read = reading.read; over = reading.over; no_stop = stop.no_stop; one_stop = stop.one_stop; one_made = c.made_law.ensures; no_root_fault = root.no_fault; one_root_fault = root.one_fault } in
    refusal_ends _ source sink words settings bytes laws are well other asked status tells refused apart ends

pub returns-clause-complete : goal.returns-clause-complete
returns-clause-complete g c words settings source sink bytes status are well can ends =
    let words_law = c.settings_law.ensures in
    let reading = c.reading_law.ensures in
    let stop = c.root_stop_law.ensures in
    let root = c.root_answer_law.ensures in
    let laws : AreToldApart = record { one_settings = words_law.one; not_both = words_law.not_both; one_usage = words_law.one_fault; read = reading.read; over = reading.over; no_stop = stop.no_stop; one_stop = stop.one_stop; one_made = c.made_law.ensures; no_root_fault = root.no_fault; one_root_fault = root.one_fault } in
    search_ends _ source sink words settings bytes laws are well status can ends
