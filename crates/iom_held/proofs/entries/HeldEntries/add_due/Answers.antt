use Rattle.std.proofs.Common.{List, map, subst}
use Rattle.std.proofs.lemmas.Result.{on_ok_weaker}
use Rattle.iom_every.specs.declared.entry.Entry.{Entry}
use Rattle.iom_held.specs.Kept.{Renews, due_of, entry_of}
use Rattle.iom_held.proofs.entries.HeldEntries.add_due.Goals as goal

pub returns-clause-added : goal.returns-clause-added
returns-clause-added c =
    on_ok_weaker c.put_all.result (λ put. record {
      news = c.in_ok-news.news.items;
      are = c.in_ok-news.ensures;
      put = subst (λ (news : List Entry). Renews entry_of (map (due_of c.args.number) news) c.args.self.now c.put_all.new.self) c.deref.ensures.value put;
    }) c.put_all.ensures.renewed
