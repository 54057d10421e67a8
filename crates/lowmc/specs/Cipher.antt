-- Cited by inner contracts alone: LowMC of lent tables.
use Rattle.circuit.specs.Lowmc.{Cipher}
use Rattle.lowmc.specs.declared.tables.Tables.{Tables}
use Rattle.lowmc.specs.Lent.{cipher_of}

abbrev pub cipher : Tables → Cipher
cipher t = cipher_of t.set t.keys.now t.layers.now t.constants.now
