-- An old medium goes on, by computing the definitions of the store as it was and of today's.
use mathlib.Core.Path.{refl}
use Rattle.runs.specs.Earlier.{head_before, item_before, parse_before, parsed_before, record_form_before, logged_before}
use Rattle.runs.specs.Earlier.{log_before, cell_before, slot_form_before, forms_before, slots_form_before}
use Rattle.runs.specs.Earlier.{page_form_before, cell_at_before, version_of_before, newest_before, next_before}
use Rattle.runs.specs.Earlier.{last_before, time_at_before, time_below_before, slot_true_before, pair_in_bounds_before}
use Rattle.runs.specs.Earlier.{fields_before, records_before, redone_before, history_before, from_one_before}
use Rattle.runs.specs.Earlier.{conditions_before, state_before, open_if_before, open_before}
use Rattle.runs.specs.EarlierCalls.{held_before, old_head, old_if, old_called}
use Rattle.runs.specs.OldMedia.{old_typed, old_sight, old_sights, old_opens, old_step, is_old_run, old_world}
use Rattle.examples.specs.Compute.{ran}
use Rattle.examples.specs.Table.{tail_of}
use Rattle.examples.specs.OldMedium.{over_from, GoesOn}

pub goes_on : GoesOn
unfolding GoesOn over_from tail_of held_before old_head old_if old_called old_typed old_sight old_sights old_opens
    old_step is_old_run old_world ran head_before item_before parse_before parsed_before record_form_before
    logged_before log_before cell_before slot_form_before forms_before slots_form_before page_form_before cell_at_before
    version_of_before newest_before next_before last_before time_at_before time_below_before slot_true_before
    pair_in_bounds_before fields_before records_before redone_before history_before from_one_before conditions_before
    state_before open_if_before open_before
goes_on = refl
