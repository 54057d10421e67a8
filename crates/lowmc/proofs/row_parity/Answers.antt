-- `lowmc::row_parity` meets its contract.
use Rattle.lowmc.proofs.ProductLaws.{low_digit}
use Rattle.lowmc.proofs.row_parity.Goals as goal

pub returns : goal.returns
returns c = low_digit _ _ c.row_ones.ensures
