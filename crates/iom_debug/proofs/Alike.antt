-- Parts that are equal are told alike, but for the end of a walk.
use Rattle.std.proofs.Common.{◌≡◌, ◌∙◌, ◌+◌, ℕ, List, [], ◌∷◌, Option, Some, None, refl, sym, ap, subst}
use Rattle.std.specs.Prelude.{◌++◌, codes, take}
use Rattle.std.specs.Option.{unwrap_or, option_map}
use Rattle.iom_bits.specs.Features.{Features}
use Rattle.iom_mem.specs.Memory.{Memory, words_at}
use Rattle.iom_mem.specs.Memory as memory
use Rattle.iom_ddt.specs.declared.met.Met.{Met}
use Rattle.iom_ddt.specs.declared.met.Met.TheVariants as met
use Rattle.iom_ddt.specs.Refusals.{why_refused}
use Rattle.iom_items.specs.Lines.{line_on, operand}
use Rattle.iom_items.specs.Lines as lines
use Rattle.iom_items.specs.declared.item.Item.TheVariants as item
use Rattle.iom_core.specs.State.{Machine}
use Rattle.iom_core.specs.declared.access.Request.{Request}
use Rattle.iom_ddt.specs.Formats.{context_format, words_in}
use Rattle.iom_ddt.specs.declared.formats.ContextFormat.{ContextFormat}
use Rattle.iom_ddt.specs.declared.formats.ContextFormat.TheVariants.{Base, Extended}
use Rattle.iom_items.specs.Items.{context_words}
use Rattle.iom_tables.specs.Fetches.{IsItem, IsRead}
use Rattle.iom_tables.specs.declared.part.Part.{Part}
use Rattle.iom_tables.specs.declared.part.Part.TheVariants as part
use Rattle.iom_debug.specs.Walks.{IsBeforeEnd, item_text, met_text, part_text, why_text}

-- four words, read as the first of eight
four_again : (a b c d : Option ℕ) → let four : Option (List ℕ) = memory.before a (memory.before b (memory.before c (memory.before d (Some [])))) in
    option_map (take 4) (option_map (λ words. words ++ 0 ∷ 0 ∷ 0 ∷ 0 ∷ []) four) ≡ four
four_again None b c d = refl
four_again (Some a) None c d = refl
four_again (Some a) (Some b) None d = refl
four_again (Some a) (Some b) (Some c) None = refl
four_again (Some a) (Some b) (Some c) (Some d) = refl

-- contexts that are read alike have the same words
words_alike : (format : ContextFormat) (now before : Memory) (place : ℕ) → words_in format now place ≡ words_in format before place →
    words_at now place (context_words format) ≡ words_at before place (context_words format)
words_alike Base now before place same =
    let again : (of : Memory) → option_map (take 4) (words_in Base of place) ≡ words_at of place 4 =
    λ of. four_again (memory.word of place) (memory.word of (place + 8)) (memory.word of (place + 8 + 8)) (memory.word of (place + 8 + 8 + 8)) in
    sym (again now) ∙ ap (option_map (take 4)) same ∙ again before
words_alike Extended now before place same = same

-- one item of the directory is told by what was read of it
item_alike : (now before : Memory) (features : Features) (item : Met) → IsItem (context_format features) now item → IsItem (context_format features) before item →
    item_text now features item ≡ item_text before features item
unfolding lines.item_line_on memory.bytes_at
item_alike now before features (met.Entry place word) is was =
    ap (λ (o : Option ℕ). codes "dir" ++ operand (codes "at") place ++ codes " "
    ++ unwrap_or (option_map (line_on features item.Dir) (memory.before o (Some []))) (codes "outside")) (sym is ∙ was)
item_alike now before features (met.Leaf place words) is was =
    ap (λ (o : Option (List ℕ)). codes "context" ++ operand (codes "at") place ++ codes " "
    ++ unwrap_or (option_map (line_on features item.Context) o) (codes "outside"))
    (words_alike (context_format features) now before place (sym is ∙ was))

met_alike : (now before : Memory) (features : Features) (item : Met) → IsItem (context_format features) now item → IsItem (context_format features) before item →
    met_text now features item ≡ met_text before features item
unfolding met_text
met_alike now before features item is was =
    ap (λ (text : List ℕ). text ++ why_text (why_refused features item)) (item_alike now before features item is was)

one_alike : (now before : Machine) (request asked : Request) (p : Part) → IsBeforeEnd p → now.registers.features ≡ before.registers.features →
    IsRead (context_format now.registers.features) now.memory p → IsRead (context_format before.registers.features) before.memory p → part_text now request p ≡ part_text before asked p
one_alike now before request asked (part.Ddtp mode root) inner same is was = refl
one_alike now before request asked (part.Directory met) inner same is was =
    met_alike now.memory before.memory now.registers.features met is (subst (λ features. IsItem (context_format features) before.memory met) (sym same) was)
    ∙ ap (λ features. met_text before.memory features met) same
one_alike now before request asked (part.Wide what) inner same is was = refl
one_alike now before request asked (part.First entry addr) inner same is was = refl
one_alike now before request asked (part.Second guest entry) inner same is was = refl
one_alike now before request asked (part.File guest place word) inner same is was = refl
one_alike now before request asked (part.End way) inner same is was = absurd inner

pub told_alike : (now before : Machine) (request asked : Request) (p other : Part) → IsBeforeEnd p → p ≡ other →
    now.registers.features ≡ before.registers.features → IsRead (context_format now.registers.features) now.memory p → IsRead (context_format before.registers.features) before.memory other →
    part_text now request p ≡ part_text before asked other
told_alike now before request asked p other inner same features is was =
    let Goal : Part → Type 0 = λ q. IsRead (context_format before.registers.features) before.memory q → part_text now request p ≡ part_text before asked q in
    subst Goal same (λ was. one_alike now before request asked p inner features is was) was
