use Rattle.std.proofs.Common.{◌≡◌, ◌++◌, List, map, sym, subst}
use Rattle.std.specs.Prelude.{OnOk}
use Rattle.std.specs.List.{range_with_len}
use Rattle.iom_every.specs.declared.entry.Entry.{Entry}
use Rattle.iom_every.specs.Entries.{kept_as, page_of}
use Rattle.iom_every.proofs.Split.{first_pages, second_pages}
use Rattle.iom_owed.proofs.forms.put_form.Goals as goal

pub returns-in-First : goal.returns-in-First
returns-in-First c =
    let all : map (page_of c.args.entry.now) (range_with_len 0 16) ≡ kept_as c.args.features c.args.entry.now =
    subst (λ (entry : Entry). map (page_of entry) (range_with_len 0 16) ≡ kept_as c.args.features entry) (sym c.in-First.is)
    (first_pages c.args.features c.in-First.gscid c.in-First.pscid c.in-First.held (sym c.if-is_of_sixteen.ensures)) in
    subst (λ (forms : List Entry). OnOk c.put_pages.result (c.put_pages.new.out.items ≡ c.args.out.now.items ++ forms)) all c.put_pages.ensures

pub returns-in-Second : goal.returns-in-Second
returns-in-Second c =
    let all : map (page_of c.args.entry.now) (range_with_len 0 16) ≡ kept_as c.args.features c.args.entry.now =
    subst (λ (entry : Entry). map (page_of entry) (range_with_len 0 16) ≡ kept_as c.args.features entry) (sym c.in-Second.is)
    (second_pages c.args.features c.in-Second.gscid c.in-Second.held (sym c.if-is_of_sixteen-2.ensures)) in
    subst (λ (forms : List Entry). OnOk c.put_pages-in-Second.result (c.put_pages-in-Second.new.out.items ≡ c.args.out.now.items ++ forms)) all c.put_pages-in-Second.ensures
