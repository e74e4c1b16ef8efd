use Rattle.std.proofs.Common.{rules, inl, inr, refl}
use Rattle.iom_include.specs.Reading.{remaining_of}
use Rattle.iom_debug.specs.Desks.{desk_of}
use Rattle.iom_scripts.proofs.debugging.debug_lines.Goals as goal

pub returns-in-Ok : goal.returns-in-Ok
returns-in-Ok g c = inr (
  refl,
  remaining_of g.T.Texts.known g.R.Read.remaining c.debug.new.reader.inner.now,
  record {
    desk = desk_of c.debug.new.debugging.debugger;
    number = c.debug.new.debugging.number;
    tells_slips = c.debug.new.debugging.tells_slips;
  },
  search rules,
)

pub returns-in-Ok-2 : goal.returns-in-Ok-2
returns-in-Ok-2 g c = (
  remaining_of g.T.Texts.known g.R.Read.remaining c.debug.new.reader.inner.now,
  record {
    desk = desk_of c.debug.new.debugging.debugger;
    number = c.debug.new.debugging.number;
    tells_slips = c.debug.new.debugging.tells_slips;
  },
  search rules,
  search rules,
)

pub returns-in-Err : goal.returns-in-Err
returns-in-Err g c = inl (record {
  left = remaining_of g.T.Texts.known g.R.Read.remaining c.debug.new.reader.inner.now;
  end = record {
    desk = desk_of c.debug.new.debugging.debugger;
    number = c.debug.new.debugging.number;
    tells_slips = c.debug.new.debugging.tells_slips;
  };
  why = c.in-Err.fault;
  line = c.take_fault.result;
  is = c.of_run.ensures;
  stops = inl (search rules);
})
