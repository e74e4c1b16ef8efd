use Rattle.std.proofs.Common.{◌≡◌, ◌++◌, ◌-◌, map}
use Rattle.std.specs.List.{range_with_len}
use Rattle.iom_every.specs.Entries.{page_of}
use Rattle.iom_owed.proofs.forms.put_pages.Given as goal

-- what is put in, and then the pages that are left, is all
abbrev pub invariant-loop-i : goal.invariant-loop-i
invariant-loop-i l =
    l.out.items ++ map (page_of l.entry) (range_with_len l.i (16 - l.i)) ≡ l.fn.out.items ++ map (page_of l.entry) (range_with_len 0 16)
