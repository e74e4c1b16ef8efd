-- Register files by the values of their registers.
use Rattle.iom_regs.specs.Table.{Registers}
use Rattle.iom_regs.specs.declared.values.RegValues.{RegValues}

abbrev pub registers_of : RegValues → Registers
registers_of values = record {
  features = values.features;
  ddtp = values.ddtp;
  acting = values.acting;
  cqb = values.cqb;
  cqh = values.cqh;
  cqt = values.cqt;
  fqb = values.fqb;
  fqh = values.fqh;
  fqt = values.fqt;
  cqcsr = values.cqcsr;
  fqcsr = values.fqcsr;
  ipsr = values.ipsr;
  icvec = values.icvec;
  fctl = values.fctl;
  table = values.table;
}
