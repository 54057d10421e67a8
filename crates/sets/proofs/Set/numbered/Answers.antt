-- `sets::Set::numbered` meets its contract.
use Rattle.sets.proofs.Set.numbered.Goals as goal

pub returns-in-1 : goal.returns-in-1
returns-in-1 c = rw (c.in-1.is, c.picnic_l1_fs.ensures)

pub returns-in-2 : goal.returns-in-2
returns-in-2 c = rw (c.in-2.is, c.picnic_l3_fs.ensures)

pub returns-in-3 : goal.returns-in-3
returns-in-3 c = rw (c.in-3.is, c.picnic_l5_fs.ensures)
