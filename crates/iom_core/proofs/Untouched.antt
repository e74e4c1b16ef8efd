-- A command that isn't for a cache leaves it.
use Rattle.std.proofs.Common.{◌≡◌, ℕ, List, false, Option, Some, sym}
use Rattle.iom_ddt.specs.declared.context.Context.{Context}
use Rattle.iom_nested.specs.declared.translation.Hit.{Hit}
use Rattle.iom_queue.specs.declared.command.Command.{Command}
use Rattle.iom_queue.specs.declared.command.Command.TheVariants.{Vma, Gvma, Fence, Iodir}
use Rattle.iom_cache.proofs.Kept.{iodir_keeps_pages, fence_keeps_pages, vma_keeps_contexts, gvma_keeps_contexts, fence_keeps_contexts}
use Rattle.iom_cache.specs.declared.key.Key.{Key}
use Rattle.iom_cache.specs.Drops.{drops_page, drops_context}
use Rattle.iom_cache.specs.Places.{emptied_by}
use Rattle.iom_core.specs.Commands.{is_for_pages, is_for_contexts}

pub pages_untouched : (command : Command) (pages : List (Option (Key × Hit))) → is_for_pages command ≡ false →
    pages ≡ emptied_by drops_page (Some command) pages
pages_untouched (Vma av page pscv pscid gv gscid nl s) pages other = absurd (cc)
pages_untouched (Gvma av page pscid gv gscid nl s) pages other = absurd (cc)
pages_untouched (Fence av wsi pr pw value addr) pages other = sym (fence_keeps_pages av wsi pr pw value addr pages)
pages_untouched (Iodir dv did) pages other = sym (iodir_keeps_pages dv did pages)

pub contexts_untouched : (command : Command) (contexts : List (Option (ℕ × Context))) → is_for_contexts command ≡ false →
    contexts ≡ emptied_by drops_context (Some command) contexts
contexts_untouched (Vma av page pscv pscid gv gscid nl s) contexts other = sym (vma_keeps_contexts av page pscv pscid gv gscid nl s contexts)
contexts_untouched (Gvma av page pscid gv gscid nl s) contexts other = sym (gvma_keeps_contexts av page pscid gv gscid nl s contexts)
contexts_untouched (Fence av wsi pr pw value addr) contexts other = sym (fence_keeps_contexts av wsi pr pw value addr contexts)
contexts_untouched (Iodir dv did) contexts other = absurd (cc)
