-- Commands that drop nothing of a cache leave it.
use Rattle.std.proofs.Common.{◌≡◌, ℕ, List, [], ◌∷◌, Bool, false, Option, Some, None, map, if◌then◌else◌, refl, ap}
use Rattle.iom_ddt.specs.declared.context.Context.{Context}
use Rattle.iom_nested.specs.declared.translation.Hit.{Hit}
use Rattle.iom_queue.specs.declared.command.Command.TheVariants.{Vma, Gvma, Fence, Iodir}
use Rattle.iom_cache.specs.declared.key.Key.{Key}
use Rattle.iom_cache.specs.Drops.{drops_page, drops_device, drops_context}
use Rattle.iom_cache.specs.Places.{dropped_by, emptied_by}

dropped_none : {K V : Type 0} → (drops : K → V → Bool) → ((key : K) (value : V) → drops key value ≡ false) →
    (places : List (Option (K × V))) → map (dropped_by drops) places ≡ places
dropped_none drops keeps [] = refl
dropped_none drops keeps (None ∷ places) = ap (λ rest. None ∷ rest) (dropped_none drops keeps places)
dropped_none {K} {V} drops keeps (Some entry ∷ places) =
    let first : dropped_by drops (Some entry) ≡ Some entry = ap (λ (b : Bool). if b then None else Some entry) (keeps entry.0 entry.1) in
    rw (first, dropped_none drops keeps places) refl

pub emptied_none : {C K V : Type 0} → (drops : C → K → V → Bool) (command : C) →
    ((key : K) (value : V) → drops command key value ≡ false) → (places : List (Option (K × V))) →
    emptied_by drops (Some command) places ≡ places
emptied_none drops command keeps places = dropped_none (drops command) keeps places

pub iodir_keeps_pages : (dv : Bool) (did : ℕ) (pages : List (Option (Key × Hit))) → emptied_by drops_page (Some (Iodir dv did)) pages ≡ pages
unfolding drops_page
iodir_keeps_pages dv did pages = emptied_none drops_page (Iodir dv did) (λ key hit. refl) pages

pub fence_keeps_pages : (av wsi pr pw : Bool) (value addr : ℕ) (pages : List (Option (Key × Hit))) →
    emptied_by drops_page (Some (Fence av wsi pr pw value addr)) pages ≡ pages
unfolding drops_page
fence_keeps_pages av wsi pr pw value addr pages = emptied_none drops_page (Fence av wsi pr pw value addr) (λ key hit. refl) pages

pub vma_keeps_contexts : (av : Bool) (page : ℕ) (pscv : Bool) (pscid : ℕ) (gv : Bool) (gscid : ℕ) (nl s : Bool) (contexts : List (Option (ℕ × Context))) →
    emptied_by drops_context (Some (Vma av page pscv pscid gv gscid nl s)) contexts ≡ contexts
unfolding drops_device
vma_keeps_contexts av page pscv pscid gv gscid nl s contexts = emptied_none drops_context (Vma av page pscv pscid gv gscid nl s) (λ did context. refl) contexts

pub gvma_keeps_contexts : (av : Bool) (page pscid : ℕ) (gv : Bool) (gscid : ℕ) (nl s : Bool) (contexts : List (Option (ℕ × Context))) →
    emptied_by drops_context (Some (Gvma av page pscid gv gscid nl s)) contexts ≡ contexts
unfolding drops_device
gvma_keeps_contexts av page pscid gv gscid nl s contexts = emptied_none drops_context (Gvma av page pscid gv gscid nl s) (λ did context. refl) contexts

pub fence_keeps_contexts : (av wsi pr pw : Bool) (value addr : ℕ) (contexts : List (Option (ℕ × Context))) →
    emptied_by drops_context (Some (Fence av wsi pr pw value addr)) contexts ≡ contexts
unfolding drops_device
fence_keeps_contexts av wsi pr pw value addr contexts = emptied_none drops_context (Fence av wsi pr pw value addr) (λ did context. refl) contexts
