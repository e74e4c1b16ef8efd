-- The lines of the items that a text describes say again what it states.
use Rattle.std.proofs.Common.{◌≡◌, ◌≢◌, codes, ℕ, suc, ◌+◌, ◌*◌, ◌==◌, ◌&&◌, ◌||◌, not, inl, inr, length-append, append-nil, Bool, true, false, if◌then◌else◌, List, [], ◌∷◌, ◌++◌, length, Option, Some, None, Result, Ok, Err, refl, sym, subst, ap, ◌∙◌, append_assoc, arith}
use Rattle.std.specs.List.{list_any}
use Rattle.std.specs.Option.{option_map}
use Rattle.std.specs.Result.{result_ok}
use Rattle.std.proofs.lemmas.Bool.{and_parts, and_from}
use Rattle.iom_bits.specs.Bytes.{bytes_of_number}
use Rattle.iom_bits.specs.Bits.{has_bit}
use Rattle.iom_bits.specs.Features.{Features, nl_bit, no_features, s_bit, sv57_bit, sv57x4_bit}
use Rattle.iom_ddt.specs.Formats.{context_format}
use Rattle.iom_ddt.specs.declared.formats.ContextFormat.TheVariants.{Base}
use Rattle.iom_image.specs.Versions.{features_of}
use Rattle.iom_items.specs.declared.layouts.Layout.{Layout}
use Rattle.iom_items.specs.Layouts.{fields_of}
use Rattle.iom_items.proofs.Restated.{line_taken, named_as, statement_taken, words_fine, words_many}
use Rattle.iom_mem.specs.Memory.{Memory, bytes_at, words_at}
use Rattle.iom_mem.specs.Words.{bytes_of_words}
use Rattle.iom_text.specs.Words.{words_of}
use Rattle.iom_asm.specs.declared.asm_fault.AsmFault.{AsmFault}
use Rattle.iom_asm.specs.declared.asm_fault.AsmFault.TheVariants.{Outside, Overlap}
use Rattle.iom_items.specs.declared.item.Item.{Item}
use Rattle.iom_items.specs.declared.item.Item.TheVariants as item
use Rattle.iom_image.specs.Image.{Chunk, Image, IsImage, image_bytes}
use Rattle.iom_items.specs.Items.{name_of, words_in}
use Rattle.iom_items.specs.Forms.{are_offered, words_for, words_on}
use Rattle.iom_items.specs.Lines.{Pair, are_had, is_had, is_taken, item_line_on, layout_in, line_of, line_on, number_for, pairs_in}
use Rattle.iom_asm.specs.Listing.{listed}
use Rattle.iom_image.specs.Loading.{opening_of}
use Rattle.iom_image.specs.Reading.{image_of}
use Rattle.iom_asm.specs.Assembly.{ImageDraftView, meets, is_inside, with_bytes, placed, bytes_for, or_bad, then_so, stated, after_words, after_lines, lines_of, ended, described}
use Rattle.iom_asm.specs.Retelling.{StandsIn, IsStated, AreStated, lines_told}
use Rattle.iom_asm.proofs.Keeping.{Good, lines_good}
use Rattle.iom_image.proofs.Images.{read_again}
use Rattle.iom_asm.proofs.Standing.{IsIn, stands, front_at, behind_at}
use Rattle.iom_items.proofs.Bounds.{AreWords, length_of_words}
use Rattle.iom_asm.proofs.Lasting.{now_in, lines_has, Grows, GrowsTo, lines_grow, more_placed}
use Rattle.iom_asm.proofs.Spans.{words_stand}
use Rattle.iom_image.proofs.Oks.{ok_is}

-- a step that gave a value
pub step_ok : {A B : Type 0} (made : Result A AsmFault) (f : A → Result B AsmFault) (y : B) → then_so made f ≡ Ok y → (x : A) × (made ≡ Ok x) × (f x ≡ Ok y)
step_ok (Ok x) f y is = (x, refl, is)
step_ok (Err fault) f y is = absurd cc

either_ok : {A : Type 0} (inside taken : Bool) (outside overlap : AsmFault) (x y : A) →
    (if inside then (if taken then Err overlap else Ok x) else Err outside) ≡ Ok y → x ≡ y
either_ok true true outside overlap x y is = absurd cc
either_ok true false outside overlap x y is = ok_is x y is
either_ok false taken outside overlap x y is = absurd cc

placed_is : (line : ℕ) (draft next : ImageDraftView) (bytes : List ℕ) → placed line draft bytes ≡ Ok next → with_bytes draft bytes ≡ next
unfolding placed
placed_is line draft next bytes is =
    either_ok (is_inside draft.image draft.next_address (length bytes)) (list_any (meets draft.next_address (length bytes)) draft.image.chunks) (Outside line) (Overlap line)
    (with_bytes draft bytes) next is

-- the statement of an item
stated_is : (kind : Item) (line : ℕ) (draft : ImageDraftView) (operands : List (List ℕ)) →
    stated line draft (name_of kind) operands
    ≡ then_so (or_bad line (option_map bytes_of_words (words_on (features_of draft.image.version) (name_of kind) operands))) (placed line draft)
unfolding stated bytes_for
stated_is item.Cmd line draft operands = refl
stated_is item.Fault line draft operands = refl
stated_is item.Context line draft operands = refl
stated_is item.Dir line draft operands = refl
stated_is item.Pte line draft operands = refl
stated_is item.Msi line draft operands = refl
stated_is item.Word line draft operands = refl

placed_next : (line : ℕ) (draft : ImageDraftView) (next : Option ImageDraftView) (words : List ℕ) →
    then_so (placed line draft (bytes_of_words words)) (λ draft. Ok (Some draft)) ≡ Ok next → Some (with_bytes draft (bytes_of_words words)) ≡ next
placed_next line draft next words is =
    let step = step_ok (placed line draft (bytes_of_words words)) (λ draft. Ok (Some draft)) next is in
    ap (λ draft. Some draft) (placed_is line draft step.0 (bytes_of_words words) step.1) ∙ ok_is (Some step.0) next step.2

-- the statement of an item on a line: its words are placed
pub after_item : (kind : Item) (line : ℕ) (draft : ImageDraftView) (next : Option ImageDraftView) (words text : List ℕ) (operands : List (List ℕ)) →
    words_of text ≡ name_of kind ∷ operands → words_on (features_of draft.image.version) (name_of kind) operands ≡ Some words →
    after_words line (Some draft) (words_of text) ≡ Ok next → Some (with_bytes draft (bytes_of_words words)) ≡ next
unfolding after_words
after_item kind line draft next words text operands parts are is =
    let first : after_words line (Some draft) (name_of kind ∷ operands) ≡ Ok next = rw parts at is in
    placed_next line draft next words (rw (stated_is kind line draft operands, are) at first)

-- the lines behind it go on from there
pub goes_past : (kind : Item) (line : ℕ) (draft last : ImageDraftView) (words text : List ℕ) (operands others : List (List ℕ)) →
    words_of text ≡ name_of kind ∷ operands → words_on (features_of draft.image.version) (name_of kind) operands ≡ Some words →
    after_lines line (Some draft) (text ∷ others) ≡ Ok (Some last) →
    after_lines (line + 1) (Some (with_bytes draft (bytes_of_words words))) others ≡ Ok (Some last)
unfolding after_lines
goes_past kind line draft last words text operands others parts are made =
    let step = step_ok (after_words line (Some draft) (words_of text)) (λ next. after_lines (line + 1) next others) (Some last) made in
    rw (after_item kind line draft step.0 words text operands parts are step.1) step.2

-- words among others, and their bytes
bytes_join : (words more : List ℕ) → bytes_of_words (words ++ more) ≡ bytes_of_words words ++ bytes_of_words more
unfolding bytes_of_words
bytes_join [] more = refl
bytes_join (word ∷ words) more =
    ap (λ rest. bytes_of_number 8 word ++ rest) (bytes_join words more)
    ∙ sym (append_assoc (bytes_of_number 8 word) (bytes_of_words words) (bytes_of_words more))

words_behind : (before words : List ℕ) → AreWords (before ++ words) → AreWords words
words_behind [] words fine = fine
words_behind (word ∷ before) words fine = words_behind before words fine.1

words_front : (words after : List ℕ) → AreWords (words ++ after) → AreWords words
words_front [] after fine = tt
words_front (word ∷ words) after fine = (fine.0, words_front words after fine.1)

-- the words of an item, as they stand in memory
told_words : (memory : Memory) (features : Features) (kind : Item) (words : List ℕ) (addr : ℕ) →
    length words ≡ words_in (context_format features) kind → AreWords words →
    is_taken features kind words ≡ true → bytes_at memory addr (length (bytes_of_words words)) ≡ Some (bytes_of_words words) →
    item_line_on memory features kind addr ≡ Some (line_of (context_format features) kind words)
unfolding item_line_on
told_words memory features kind words addr one fine taken there =
    ap (option_map (line_on features kind)) (ap (words_at memory addr) (sym one) ∙ words_stand memory words addr fine there)
    ∙ ap (λ line. Some line) (line_taken features kind words taken)

-- a part of what a chunk has stands in memory too
part_told : (memory : Memory) (features : Features) (kind : Item) (before words after : List ℕ) (place : ℕ) →
    length words ≡ words_in (context_format features) kind →
    AreWords (before ++ (words ++ after)) → is_taken features kind words ≡ true →
    bytes_at memory place (length (bytes_of_words (before ++ (words ++ after)))) ≡ Some (bytes_of_words (before ++ (words ++ after))) →
    item_line_on memory features kind (place + 8 * length before) ≡ Some (line_of (context_format features) kind words)
part_told memory features kind before words after place one fine taken there =
    let joined : bytes_of_words (before ++ (words ++ after)) ≡ bytes_of_words before ++ (bytes_of_words words ++ bytes_of_words after) =
    bytes_join before (words ++ after) ∙ ap (λ rest. bytes_of_words before ++ rest) (bytes_join words after) in
    let whole = behind_at memory place (bytes_of_words before) (bytes_of_words words ++ bytes_of_words after) (rw joined at there) in
    let part = front_at memory (place + length (bytes_of_words before)) (bytes_of_words words) (bytes_of_words after) whole in
    told_words memory features kind words (place + 8 * length before) one (words_front words after (words_behind before (words ++ after) fine)) taken
    (rw (length_of_words before) at part)

-- a statement of one item has its words alone
where_found : {A : Type 0} (b : Bool) (next : Option A) (y : A) → (if b then next else None) ≡ Some y → (b ≡ true) × (next ≡ Some y)
where_found true next y is = (refl, is)
where_found false next y is = absurd cc

pub for_on : (features : Features) (name : List ℕ) (operands : List (List ℕ)) (words : List ℕ) → words_on features name operands ≡ Some words →
    (are_offered features operands ≡ true) × (words_for (context_format features) name operands ≡ Some words)
unfolding words_on
for_on features name operands words is = where_found (are_offered features operands) (words_for (context_format features) name operands) words is

only_one : (count : ℕ) (before words after : List ℕ) → length words ≡ count → length (before ++ (words ++ after)) ≡ count → before ++ (words ++ after) ≡ words
only_one count [] words [] one all = append-nil words
only_one count [] words (word ∷ after) one all = absurd (omega (arith, one, all, length-append words (word ∷ after)))
only_one count (word ∷ before) words after one all =
    absurd (omega (arith, one, all, length-append before (words ++ after), length-append words after))

item_taken : (features : Features) (kind : Item) (operands : List (List ℕ)) (before words after : List ℕ) → kind ≢ item.Word →
    length words ≡ words_in (context_format features) kind →
    words_on features (name_of kind) operands ≡ Some (before ++ (words ++ after)) → is_taken features kind words ≡ true
item_taken features kind operands before words after other one is =
    let on = for_on features (name_of kind) operands (before ++ (words ++ after)) is in
    let format = context_format features in
    let many = words_many format kind operands (before ++ (words ++ after)) other (sym (named_as format kind operands) ∙ on.1) in
    subst (λ (words : List ℕ). is_taken features kind words ≡ true) (only_one (words_in format kind) before words after one many)
    (statement_taken features kind operands (before ++ (words ++ after)) on.0 on.1)

part_taken : (features : Features) (kind : Item) (operands : List (List ℕ)) (before words after : List ℕ) →
    length words ≡ words_in (context_format features) kind → words_on features (name_of kind) operands ≡ Some (before ++ (words ++ after)) →
    is_taken features kind words ≡ true
part_taken features item.Word operands before words after one is = refl
part_taken features item.Cmd operands before words after one is = item_taken features item.Cmd operands before words after (λ is. absurd cc) one is
part_taken features item.Context operands before words after one is = item_taken features item.Context operands before words after (λ is. absurd cc) one is
part_taken features item.Fault operands before words after one is = item_taken features item.Fault operands before words after (λ is. absurd cc) one is
part_taken features item.Dir operands before words after one is = item_taken features item.Dir operands before words after (λ is. absurd cc) one is
part_taken features item.Pte operands before words after one is = item_taken features item.Pte operands before words after (λ is. absurd cc) one is
part_taken features item.Msi operands before words after one is = item_taken features item.Msi operands before words after (λ is. absurd cc) one is

-- what is taken with no features is taken with any
abbrev had : Features → ℕ → Bool → Bool
had features bit free = has_bit features bit || free

or_right : (have free : Bool) → free ≡ true → (have || free) ≡ true
or_right true free is = refl
or_right false free is = is

bit_any : (features : Features) (bit : ℕ) (free : Bool) → has_bit no_features bit ≡ false → had no_features bit free ≡ true → had features bit free ≡ true
bit_any features bit free none is = or_right (has_bit features bit) free (sym (ap (λ have. have || free) none) ∙ is)

had_any : (features : Features) (pairs : List Pair) → are_had no_features pairs ≡ true → are_had features pairs ≡ true
unfolding has_bit
had_any features pairs is =
    let nl : Bool = number_for (codes "nl") pairs == 0 in
    let s : Bool = number_for (codes "s") pairs == 0 in
    let first : Bool = not (number_for (codes "mode") pairs == 10) in
    let second : Bool = not (number_for (codes "gmode") pairs == 10) in
    let parts : Features → Bool = λ features. had features nl_bit nl && had features s_bit s in
    let more = and_parts (parts no_features && had no_features sv57_bit first) (had no_features sv57x4_bit second) is in
    let two = and_parts (parts no_features) (had no_features sv57_bit first) more.0 in
    let one = and_parts (had no_features nl_bit nl) (had no_features s_bit s) two.0 in
    and_from (parts features && had features sv57_bit first) (had features sv57x4_bit second)
    (and_from (parts features) (had features sv57_bit first)
    (and_from (had features nl_bit nl) (had features s_bit s) (bit_any features nl_bit nl refl one.0) (bit_any features s_bit s refl one.1))
    (bit_any features sv57_bit first refl two.1))
    (bit_any features sv57x4_bit second refl more.1)

layout_any : (features : Features) (words : List ℕ) (found : Option Layout) → is_had no_features words found ≡ true → is_had features words found ≡ true
layout_any features words None is = refl
layout_any features words (Some layout) is = had_any features (pairs_in (fields_of layout) words) is

none_base : context_format no_features ≡ Base
unfolding context_format has_bit
none_base = refl

-- if contexts have the same format
taken_any : (features : Features) (kind : Item) (words : List ℕ) → context_format features ≡ Base → is_taken no_features kind words ≡ true →
    is_taken features kind words ≡ true
taken_any features kind words base is =
    rw base (layout_any features words (layout_in Base kind words) (rw none_base at is))

still_taken : (before after : Features) (kind : Item) (words : List ℕ) → Grows before after → is_taken before kind words ≡ true → is_taken after kind words ≡ true
still_taken before after kind words (inl same) is = subst (λ (features : Features). is_taken features kind words ≡ true) same is
still_taken before after kind words (inr none) is = taken_any after kind words none.1 (subst (λ (features : Features). is_taken features kind words ≡ true) none.0 is)

pub format_kept : (before after : Features) → Grows before after → context_format before ≡ context_format after
format_kept before after (inl same) = ap context_format same
format_kept before after (inr none) = ap context_format none.0 ∙ none_base ∙ sym none.1

-- lines before others
next_then : (line : ℕ) (made : Result (Option ImageDraftView) AsmFault) (before after : List (List ℕ)) →
    ((next : Option ImageDraftView) → after_lines (line + 1) next (before ++ after)
    ≡ then_so (after_lines (line + 1) next before) (λ next. after_lines (line + 1 + length before) next after)) →
    then_so made (λ next. after_lines (line + 1) next (before ++ after))
    ≡ then_so (then_so made (λ next. after_lines (line + 1) next before)) (λ next. after_lines (line + suc (length before)) next after)
next_then line (Err fault) before after others = refl
next_then line (Ok next) before after others = let same : line + suc (length before) ≡ line + 1 + length before = omega arith in rw same (others next)

pub lines_then : (line : ℕ) (draft : Option ImageDraftView) (before after : List (List ℕ)) →
    after_lines line draft (before ++ after) ≡ then_so (after_lines line draft before) (λ next. after_lines (line + length before) next after)
unfolding after_lines
lines_then line draft [] after = let same : line + 0 ≡ line = omega arith in rw same refl
lines_then line draft (text ∷ before) after =
    next_then line (after_words line draft (words_of text)) before after (λ next. lines_then (line + 1) next before after)

-- the draft that a text ends with
end_is : (made : Result (Option ImageDraftView) AsmFault) (next : Option ImageDraftView) (image : Image) → made ≡ Ok next → ended next ≡ Ok image →
    (last : ImageDraftView) × (made ≡ Ok (Some last)) × (last.image ≡ image)
end_is made None image is end = absurd cc
end_is made (Some last) image is end = (last, is, ok_is last.image image end)

pub last_of : (text : List ℕ) (image : Image) → described text ≡ Ok image → (last : ImageDraftView) × (after_lines 1 None (lines_of text) ≡ Ok (Some last)) × (last.image ≡ image)
unfolding described
last_of text image is =
    let step = step_ok (after_lines 1 None (lines_of text)) ended image is in
    end_is (after_lines 1 None (lines_of text)) step.0 image step.1 step.2

good_last : (text : List ℕ) (last : ImageDraftView) → after_lines 1 None (lines_of text) ≡ Ok (Some last) → Good last
good_last text last is = rw is at (lines_good 1 None (lines_of text) tt)

pub image_good : (text : List ℕ) (image : Image) → described text ≡ Ok image → IsImage image
image_good text image is = let last = last_of text image is in subst IsImage last.2 (good_last text last.0 last.1)

pub reads_again : (text : List ℕ) (image : Image) → described text ≡ Ok image → image_of (image_bytes image) ≡ Ok image
reads_again text image is = read_again image (image_good text image is)

-- the lines of a text from some on, after what the lines before them make
pub going_on : (text : List ℕ) (draft last : ImageDraftView) (lines : List (List ℕ)) (stand : StandsIn lines text draft) →
    after_lines 1 None (lines_of text) ≡ Ok (Some last) → after_lines (1 + length stand.before) (Some draft) (lines ++ stand.after) ≡ Ok (Some last)
going_on text draft last lines stand made =
    sym (lines_then 1 None stand.before (lines ++ stand.after)
    ∙ ap (λ made. then_so made (λ next. after_lines (1 + length stand.before) next (lines ++ stand.after))) stand.made)
    ∙ ap (after_lines 1 None) (sym stand.parts) ∙ made

-- contexts have the same format to the end
same_end : (text : List ℕ) (last : ImageDraftView) (kind : Item) (words : List ℕ) (addr : ℕ) → after_lines 1 None (lines_of text) ≡ Ok (Some last) →
    (it : IsStated text kind words addr) → context_format (features_of it.draft.image.version) ≡ context_format (features_of last.image.version)
same_end text last kind words addr made it =
    let states = it.states in
    let early = features_of it.draft.image.version in
    let all = states.before ++ (words ++ states.after) in
    let line = 1 + length it.stands.before in
    let placed : ImageDraftView = with_bytes it.draft (bytes_of_words all) in
    let next = goes_past kind line it.draft last all it.line states.operands it.stands.after states.statement states.parts
    (going_on text it.draft last (it.line ∷ []) it.stands made) in
    let chunk : Chunk = record { addr = it.draft.next_address; bytes = bytes_of_words all } in
    let grows : GrowsTo early last =
    rw next at (lines_grow early (line + 1) placed it.stands.after (inl refl, more_placed chunk it.draft.image.chunks)) in
    format_kept early (features_of last.image.version) grows.0

stated_told : (text : List ℕ) (last : ImageDraftView) (kind : Item) (words : List ℕ) (addr : ℕ) → after_lines 1 None (lines_of text) ≡ Ok (Some last) →
    IsStated text kind words addr →
    item_line_on (opening_of last.image).memory (opening_of last.image).features kind addr
    ≡ Some (line_of (context_format (opening_of last.image).features) kind words)
unfolding opening_of
stated_told text last kind words addr made it =
    let good = good_last text last made in
    let states = it.states in
    let early = features_of it.draft.image.version in
    let all = states.before ++ (words ++ states.after) in
    let line = 1 + length it.stands.before in
    let placed : ImageDraftView = with_bytes it.draft (bytes_of_words all) in
    let next = goes_past kind line it.draft last all it.line states.operands it.stands.after states.statement states.parts
    (going_on text it.draft last (it.line ∷ []) it.stands made) in
    let chunk : Chunk = record { addr = it.draft.next_address; bytes = bytes_of_words all } in
    let has : IsIn chunk last.image.chunks = rw next at (lines_has chunk (line + 1) placed it.stands.after (now_in chunk it.draft.image.chunks)) in
    let grows : GrowsTo early last =
    rw next at (lines_grow early (line + 1) placed it.stands.after (inl refl, more_placed chunk it.draft.image.chunks)) in
    let format : context_format early ≡ context_format (features_of last.image.version) = format_kept early (features_of last.image.version) grows.0 in
    let taken = still_taken early (features_of last.image.version) kind words grows.0
    (part_taken early kind states.operands states.before words states.after states.one states.parts) in
    let fine : AreWords all = words_fine (context_format early) kind states.operands all (for_on early (name_of kind) states.operands all states.parts).1 in
    let place : it.draft.next_address + 8 * length states.before ≡ addr = ap (λ n. it.draft.next_address + 8 * n) states.behind ∙ sym it.place in
    let one : length words ≡ words_in (context_format (features_of last.image.version)) kind = states.one ∙ ap (λ format. words_in format kind) format in
    subst (λ (addr : ℕ). item_line_on (opening_of last.image).memory (opening_of last.image).features kind addr
    ≡ Some (line_of (context_format (opening_of last.image).features) kind words)) place
    (part_told (opening_of last.image).memory (opening_of last.image).features kind states.before words states.after it.draft.next_address one fine
    taken (stands last.image.base last.image.size last.image.chunks chunk good.chunks has))

pub tells_items : (text : List ℕ) (image : Image) (kind : Item) (words : List ℕ) (addr : ℕ) → described text ≡ Ok image →
    IsStated text kind words addr →
    item_line_on (opening_of image).memory (opening_of image).features kind addr ≡ Some (line_of (context_format (opening_of image).features) kind words)
tells_items text image kind words addr is it =
    let last = last_of text image is in
    subst (λ (image : Image). item_line_on (opening_of image).memory (opening_of image).features kind addr
    ≡ Some (line_of (context_format (opening_of image).features) kind words)) last.2
    (stated_told text last.0 kind words addr last.1 it)

stated_count : (text : List ℕ) (image : Image) (kind : Item) (words : List ℕ) (addr : ℕ) → described text ≡ Ok image →
    IsStated text kind words addr → length words ≡ words_in (context_format (opening_of image).features) kind
unfolding opening_of
stated_count text image kind words addr is it =
    let last = last_of text image is in
    let last_format = same_end text last.0 kind words addr last.1 it in
    it.states.one ∙ ap (λ format. words_in format kind) (last_format ∙ ap (λ (image : Image). context_format (features_of image.version)) last.2)

pub lists_items : (text : List ℕ) (image : Image) (kind : Item) (items : List (List ℕ)) (addr : ℕ) → described text ≡ Ok image →
    AreStated text kind items addr →
    listed (opening_of image).memory (opening_of image).features kind addr (length items)
    ≡ Some (lines_told (context_format (opening_of image).features) kind items)
unfolding listed
lists_items text image kind [] addr is stated = refl
lists_items text image kind (words ∷ items) addr is stated =
    let features = (opening_of image).features in
    let count : length words ≡ words_in (context_format features) kind = stated_count text image kind words addr is stated.0 in
    let others : listed (opening_of image).memory features kind (addr + 8 * words_in (context_format features) kind) (length items)
    ≡ Some (lines_told (context_format features) kind items) =
    subst (λ (n : ℕ). listed (opening_of image).memory features kind (addr + 8 * n) (length items) ≡ Some (lines_told (context_format features) kind items)) count
    (lists_items text image kind items (addr + 8 * length words) is stated.1) in
    rw (tells_items text image kind words addr is stated.0, others) refl
