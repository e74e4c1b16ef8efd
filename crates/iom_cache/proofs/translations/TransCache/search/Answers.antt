use Rattle.std.proofs.Common.{◌≡◌, ◌+◌, ◌<◌, ◌≤◌, ◌∙◌, ℕ, suc, List, length, get_or, Option, Some, None, sym, ap, subst, arith}
use Rattle.iom_nested.specs.declared.translation.Hit.{Hit}
use Rattle.iom_cache.specs.declared.key.Key.{Key}
use Rattle.iom_cache.specs.Buckets.{compared}
use Rattle.iom_cache.specs.Index.{Leads, hit_of, position}
use Rattle.iom_cache.specs.Keys.{same_key}
use Rattle.iom_cache.specs.Places.{find, place_of}
use Rattle.iom_cache.proofs.Chains.{position_few}
use Rattle.iom_cache.proofs.Counted.{IsWalked, walk_begun, walked_few, walked_found, walked_on, walked_out}
use Rattle.iom_cache.proofs.translations.TransCache.search.Goals as goal

pub loop-limit-init : goal.loop-limit-init
loop-limit-init c =
    let index = c.self.inside.index in
    let own = c.bucket_of.result in
    let places = c.self.inside.places.items in
    rw (c.len-limit.ensures.len, c.newest-slot.ensures) (walk_begun index.links index.first c.args.key.now places (get_or index.heads own 64)
    (subst (λ (bucket : ℕ). Leads index.links index.first bucket places (get_or index.heads own 64) (length places))
    c.bucket_of.ensures.bucket (c.self.invariant.3.leads own c.bucket_of.ensures.few)))

pub overflow_add-count : goal.overflow_add-count
overflow_add-count c =
    let l = c.loop-limit in
    let index = c.self.inside.index in
    let few = walked_few index.links index.first c.args.key.now c.self.inside.places.items l.slot l.limit l.count l.invariant in
    let most = c.self.invariant.1 in
    omega (arith, few, most)

pub older-slot-requires : goal.older-slot-requires
older-slot-requires c =
    let l = c.loop-limit in
    let first = c.self.inside.index.first in
    let low : position first l.slot < l.limit = subst (λ (n : ℕ). n < l.limit) c.position.ensures c.loop-limit-test.true in
    let inside = l.invariant.inside in
    let most = c.self.invariant.1 in
    position_few first l.slot (λ none. omega (arith, low, inside, most, none))

pub loop-limit-preserved : goal.loop-limit-preserved
loop-limit-preserved c =
    let l = c.loop-limit in
    let index = c.self.inside.index in
    let key = c.args.key.now in
    let places = c.self.inside.places.items in
    let one : suc l.count ≡ l.count + 1 = omega arith in
    let low : position index.first l.slot < l.limit = subst (λ (n : ℕ). n < l.limit) c.position.ensures c.loop-limit-test.true in
    let none : hit_of key (get_or places (position index.first l.slot) None) ≡ None =
    ap (λ (n : ℕ). hit_of key (get_or places n None)) (sym c.position-limit.ensures)
    ∙ ap (λ (ps : List (Option (Key × Hit))). hit_of key (get_or ps c.position-limit.result None)) c.self.view_is
    ∙ sym c.hit_at.ensures ∙ c.in_default.is in
    rw (c.older-slot.ensures, c.position-limit.ensures) (subst (λ (n : ℕ). IsWalked index.links index.first key places (get_or index.links l.slot 64) (position index.first l.slot) n) one
    (walked_on index.links index.first key places l.slot l.limit l.count l.invariant low none))

pub returns-in-Some-clause-place : goal.returns-in-Some-clause-place
returns-in-Some-clause-place c =
    let l = c.loop-limit in
    let index = c.self.inside.index in
    let key = c.args.key.now in
    let places = c.self.inside.places.items in
    let low : position index.first l.slot < l.limit = subst (λ (n : ℕ). n < l.limit) c.position.ensures c.loop-limit-test.true in
    let is : hit_of key (get_or places (position index.first l.slot) None) ≡ Some c.in-Some.hit =
    ap (λ (n : ℕ). hit_of key (get_or places n None)) (sym c.position-limit.ensures)
    ∙ ap (λ (ps : List (Option (Key × Hit))). hit_of key (get_or ps c.position-limit.result None)) c.self.view_is
    ∙ sym c.hit_at.ensures ∙ c.in-Some.is in
    c.position-limit.ensures ∙ (walked_found index.links index.first key places l.slot l.limit l.count l.invariant c.in-Some.hit c.self.invariant.2 low is).0
    ∙ ap (place_of (same_key key)) c.self.view_is

pub returns-in-Some-clause-found : goal.returns-in-Some-clause-found
returns-in-Some-clause-found c =
    let l = c.loop-limit in
    let index = c.self.inside.index in
    let key = c.args.key.now in
    let places = c.self.inside.places.items in
    let low : position index.first l.slot < l.limit = subst (λ (n : ℕ). n < l.limit) c.position.ensures c.loop-limit-test.true in
    let is : hit_of key (get_or places (position index.first l.slot) None) ≡ Some c.in-Some.hit =
    ap (λ (n : ℕ). hit_of key (get_or places n None)) (sym c.position-limit.ensures)
    ∙ ap (λ (ps : List (Option (Key × Hit))). hit_of key (get_or ps c.position-limit.result None)) c.self.view_is
    ∙ sym c.hit_at.ensures ∙ c.in-Some.is in
    (walked_found index.links index.first key places l.slot l.limit l.count l.invariant c.in-Some.hit c.self.invariant.2 low is).1
    ∙ ap (find (same_key key)) c.self.view_is

pub returns-in-Some-clause-count : goal.returns-in-Some-clause-count
returns-in-Some-clause-count c =
    let l = c.loop-limit in
    let index = c.self.inside.index in
    let key = c.args.key.now in
    let places = c.self.inside.places.items in
    let one : l.count + 1 ≡ suc l.count = omega arith in
    let low : position index.first l.slot < l.limit = subst (λ (n : ℕ). n < l.limit) c.position.ensures c.loop-limit-test.true in
    let is : hit_of key (get_or places (position index.first l.slot) None) ≡ Some c.in-Some.hit =
    ap (λ (n : ℕ). hit_of key (get_or places n None)) (sym c.position-limit.ensures)
    ∙ ap (λ (ps : List (Option (Key × Hit))). hit_of key (get_or ps c.position-limit.result None)) c.self.view_is
    ∙ sym c.hit_at.ensures ∙ c.in-Some.is in
    one ∙ (walked_found index.links index.first key places l.slot l.limit l.count l.invariant c.in-Some.hit c.self.invariant.2 low is).2
    ∙ ap (compared key) c.self.view_is

pub returns-clause-place : goal.returns-clause-place
returns-clause-place c =
    let l = c.loop-limit in
    let index = c.self.inside.index in
    let far : l.limit ≤ position index.first l.slot = let e = c.position.ensures in let no = c.loop-limit-test.false in omega (arith, e, no) in
    c.len.ensures.len ∙ (walked_out index.links index.first c.args.key.now c.self.inside.places.items l.slot l.limit l.count l.invariant far).0
    ∙ ap (place_of (same_key c.args.key.now)) c.self.view_is

pub returns-clause-found : goal.returns-clause-found
returns-clause-found c =
    let l = c.loop-limit in
    let index = c.self.inside.index in
    let far : l.limit ≤ position index.first l.slot = let e = c.position.ensures in let no = c.loop-limit-test.false in omega (arith, e, no) in
    (walked_out index.links index.first c.args.key.now c.self.inside.places.items l.slot l.limit l.count l.invariant far).1
    ∙ ap (find (same_key c.args.key.now)) c.self.view_is

pub returns-clause-count : goal.returns-clause-count
returns-clause-count c =
    let l = c.loop-limit in
    let index = c.self.inside.index in
    let far : l.limit ≤ position index.first l.slot = let e = c.position.ensures in let no = c.loop-limit-test.false in omega (arith, e, no) in
    (walked_out index.links index.first c.args.key.now c.self.inside.places.items l.slot l.limit l.count l.invariant far).2
    ∙ ap (compared c.args.key.now) c.self.view_is
