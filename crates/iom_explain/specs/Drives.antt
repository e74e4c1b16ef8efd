-- What an explanation drives, and its counts.
use Rattle.iom_debug.specs.Desks.{desk_of}
use Rattle.iom_explain.specs.Explaining.{Explained, Progressed}
use Rattle.iom_explain.specs.declared.explaining.Explaining.{Explaining}

abbrev pub told : Explaining → Explained
told e = record { desk = desk_of e.debugger; counts = e.teller.summary; only = e.teller.only }

abbrev pub progressed : Explaining → Progressed
progressed e = record { told = told e; number = e.number; is_short = e.teller.is_short }
