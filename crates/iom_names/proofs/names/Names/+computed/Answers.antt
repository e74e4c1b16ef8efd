use Rattle.iom_names.proofs.names.Names.+computed.Goals as goal

pub returns : goal.returns
returns t c =
    rw (c.in-Some.ensures, c.in-Some-take_word.ensures, ← c.in_ok-next.ensures) c.computed.ensures
