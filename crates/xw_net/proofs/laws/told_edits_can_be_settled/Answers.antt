use Rattle.xw_net.proofs.Edits.ToldEdits.{told_is_change, told_can_settle, room_is_kept, room_is_reserved}
use Rattle.xw_net.proofs.laws.told_edits_can_be_settled.Goals as goal

pub returns-clause-change : goal.returns-clause-change
returns-clause-change c = told_is_change

pub returns-clause-conditions : goal.returns-clause-conditions
returns-clause-conditions c = told_can_settle

pub returns-clause-kept : goal.returns-clause-kept
returns-clause-kept c = room_is_kept

pub returns-clause-reserved : goal.returns-clause-reserved
returns-clause-reserved c = room_is_reserved
