use Rattle.std.proofs.lemmas.Result.{err_from_is_err_and}
use Rattle.iom_check.proofs.Looks.{all_of, first_breaks, second_breaks}
use Rattle.iom_check.proofs.checking.Checking.look_at_caches.Goals as goal

pub returns-in_ok-look_at_places-2-clause-ok : goal.returns-in_ok-look_at_places-2-clause-ok
returns-in_ok-look_at_places-2-clause-ok g c =
    (all_of _ _ _ _ _ _ _ _ c.in_ok-look_at_places.ensures.ok c.in_ok-look_at_places.ensures.score
    (rw (c.in_ok-look_at_places.ensures.place, c.in_ok-look_at_places.ensures.debugger) at c.in_ok-look_at_places-2.ensures.ok)
    (rw (c.in_ok-look_at_places.ensures.place, c.in_ok-look_at_places.ensures.debugger) at c.in_ok-look_at_places-2.ensures.score) c.if-self.true).0

pub returns-in_ok-look_at_places-2-clause-score : goal.returns-in_ok-look_at_places-2-clause-score
returns-in_ok-look_at_places-2-clause-score g c =
    (all_of _ _ _ _ _ _ _ _ c.in_ok-look_at_places.ensures.ok c.in_ok-look_at_places.ensures.score
    (rw (c.in_ok-look_at_places.ensures.place, c.in_ok-look_at_places.ensures.debugger) at c.in_ok-look_at_places-2.ensures.ok)
    (rw (c.in_ok-look_at_places.ensures.place, c.in_ok-look_at_places.ensures.debugger) at c.in_ok-look_at_places-2.ensures.score) c.if-self.true).1

pub returns-in_err-look_at_places-clause-front : goal.returns-in_err-look_at_places-clause-front
returns-in_err-look_at_places-clause-front g c =
    let p = err_from_is_err_and c.from_residual.result c.from_residual.ensures.1 in
    rw p.1 (first_breaks _ _ _ _ _ c.in_err-look_at_places.ensures.front c.if-self.true)

pub returns-in_err-look_at_places-2-clause-front : goal.returns-in_err-look_at_places-2-clause-front
returns-in_err-look_at_places-2-clause-front g c =
    let p = err_from_is_err_and c.from_residual-in_err-look_at_places-2.result c.from_residual-in_err-look_at_places-2.ensures.1 in
    rw p.1 (second_breaks _ _ _ _ _ _ _ c.in_ok-look_at_places.ensures.ok c.in_ok-look_at_places.ensures.score
    (rw (c.in_ok-look_at_places.ensures.place, c.in_ok-look_at_places.ensures.debugger) at c.in_err-look_at_places-2.ensures.front) c.if-self.true)
