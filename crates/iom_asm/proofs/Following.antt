-- Lines that state items of one kind and nothing else state them one behind the other.
use Rattle.std.proofs.Common.{◌≡◌, ◌≢◌, ℕ, ◌+◌, ◌*◌, Bool, true, false, List, [], ◌∷◌, ◌++◌, length, map, bytes_eq, Option, Some, None, Ok, refl, sym, subst, ap, ◌∙◌, append_assoc, append-nil, length-append, arith}
use Rattle.std.specs.Option.{option_map}
use Rattle.iom_text.specs.Words.{words_of}
use Rattle.iom_mem.specs.Words.{bytes_of_words}
use Rattle.iom_items.specs.declared.item.Item.{Item}
use Rattle.iom_items.specs.declared.item.Item.TheVariants as item
use Rattle.iom_image.specs.Image.{Image}
use Rattle.iom_items.specs.Items.{name_of, words_in}
use Rattle.iom_bits.specs.Features.{Features}
use Rattle.iom_ddt.specs.Formats.{context_format}
use Rattle.iom_image.specs.Versions.{features_of}
use Rattle.iom_items.specs.Forms.{where_so, words_for, words_on}
use Rattle.iom_items.specs.Operands.{◌>>=◌}
use Rattle.iom_asm.specs.Assembly.{ImageDraftView, with_bytes, then_so, after_words, after_lines, lines_of, described}
use Rattle.iom_asm.specs.Retelling.{StandsIn, AreStated, items_of, items_on, items_in}
use Rattle.iom_items.proofs.Bounds.{length_of_words}
use Rattle.iom_items.proofs.Restated.{named_as, words_many}
use Rattle.iom_image.proofs.Found.{same_bytes}
use Rattle.iom_asm.proofs.Retold.{step_ok, after_item, lines_then, going_on, last_of, for_on}

abbrev found : {A : Type 0} → A → Option A
found x = Some x

some_is : {A : Type 0} (x y : A) → found x ≡ found y → x ≡ y
some_is x y is = cc

-- what is found after something else
both_found : {A B : Type 0} (first : Option A) (f : A → Option B) (y : B) → first >>= f ≡ Some y → (x : A) × (first ≡ Some x) × (f x ≡ Some y)
both_found None f y is = absurd cc
both_found (Some x) f y is = (x, refl, is)

made_of : {A B : Type 0} (f : A → B) (first : Option A) (y : B) → option_map f first ≡ Some y → (x : A) × (first ≡ Some x) × (f x ≡ y)
made_of f None y is = absurd cc
made_of f (Some x) y is = (x, refl, some_is (f x) y is)

where_found : {A : Type 0} (b : Bool) (next : Option A) (y : A) → where_so b next ≡ Some y → (b ≡ true) × (next ≡ Some y)
where_found true next y is = (refl, is)
where_found false next y is = absurd cc

-- the line before others, and the others
line_in : (line : List ℕ) (lines : List (List ℕ)) (text : List ℕ) (draft : ImageDraftView) → StandsIn (line ∷ lines) text draft → StandsIn (line ∷ []) text draft
line_in line lines text draft stand = record { before = stand.before; after = lines ++ stand.after; parts = stand.parts; made = stand.made }

lines_after : (line : List ℕ) (lines : List (List ℕ)) (text : List ℕ) (draft next : ImageDraftView) (stand : StandsIn (line ∷ lines) text draft) →
    after_words (1 + length stand.before) (Some draft) (words_of line) ≡ Ok (Some next) → StandsIn lines text next
unfolding after_lines
lines_after line lines text draft next stand is = record {
  before = stand.before ++ line ∷ [];
  after = stand.after;
  parts = stand.parts ∙ sym (append_assoc stand.before (line ∷ []) (lines ++ stand.after));
  made =
      lines_then 1 None stand.before (line ∷ [])
      ∙ ap (λ made. then_so made (λ next. after_lines (1 + length stand.before) next (line ∷ []))) stand.made
      ∙ ap (λ made. then_so made (λ next. after_lines (1 + length stand.before + 1) next [])) is;
}

-- a statement of one item, and what is stated behind it
item_stated : (text : List ℕ) (line : List ℕ) (draft : ImageDraftView) (kind : Item) (operands : List (List ℕ)) (words : List ℕ) (others : List (List ℕ)) →
    StandsIn (line ∷ []) text draft → words_of line ≡ name_of kind ∷ operands → words_on (features_of draft.image.version) (name_of kind) operands ≡ Some words →
    length words ≡ words_in (context_format (features_of draft.image.version)) kind → AreStated text kind others (draft.next_address + 8 * length words) → AreStated text kind (words ∷ others) draft.next_address
item_stated text line draft kind operands words others stand parts are one later = (
  record {
    line = line;
    draft = draft;
    skipped = 0;
    stands = stand;
    states = record {
      operands = operands;
      statement = parts;
      before = [];
      after = [];
      parts = are ∙ ap (λ words. Some words) (sym (append-nil words));
      one = one;
      behind = refl;
    };
    place = omega arith;
  },
  later,
)

-- a statement of numbers
numbers_stated : (text : List ℕ) (line : List ℕ) (draft : ImageDraftView) (operands : List (List ℕ)) (before after : List ℕ) (others : List (List ℕ)) →
    StandsIn (line ∷ []) text draft → words_of line ≡ name_of item.Word ∷ operands → words_on (features_of draft.image.version) (name_of item.Word) operands ≡ Some (before ++ after) →
    AreStated text item.Word others (draft.next_address + 8 * length (before ++ after)) →
    AreStated text item.Word (map (λ word. word ∷ []) after ++ others) (draft.next_address + 8 * length before)
numbers_stated text line draft operands before [] others stand parts are later =
    subst (λ (words : List ℕ). AreStated text item.Word others (draft.next_address + 8 * length words)) (append-nil before) later
numbers_stated text line draft operands before (word ∷ after) others stand parts are later =
    let cut : before ++ word ∷ after ≡ (before ++ word ∷ []) ++ after = sym (append_assoc before (word ∷ []) after) in
    let place : draft.next_address + 8 * length (before ++ word ∷ []) ≡ draft.next_address + 8 * length before + 8 * 1 =
    omega (arith, length-append before (word ∷ [])) in (
      record {
        line = line;
        draft = draft;
        skipped = length before;
        stands = stand;
        states = record { operands = operands; statement = parts; before = before; after = after; parts = are; one = refl; behind = refl };
        place = refl;
      },
      subst (AreStated text item.Word (map (λ word. word ∷ []) after ++ others)) place
          (numbers_stated text line draft operands (before ++ word ∷ []) after others stand parts (are ∙ ap (λ words. Some words) cut)
          (subst (λ (words : List ℕ). AreStated text item.Word others (draft.next_address + 8 * length words)) cut later)),
    )

one_item : (text : List ℕ) (line : List ℕ) (draft : ImageDraftView) (kind : Item) (operands : List (List ℕ)) (words : List ℕ) (others : List (List ℕ)) → kind ≢ item.Word →
    StandsIn (line ∷ []) text draft → words_of line ≡ name_of kind ∷ operands → words_on (features_of draft.image.version) (name_of kind) operands ≡ Some words →
    AreStated text kind others (draft.next_address + 8 * length words) → AreStated text kind (words ∷ others) draft.next_address
one_item text line draft kind operands words others other stand parts are later =
    item_stated text line draft kind operands words others stand parts are
    (words_many (context_format (features_of draft.image.version)) kind operands words other
    (sym (named_as (context_format (features_of draft.image.version)) kind operands) ∙ (for_on (features_of draft.image.version) (name_of kind) operands words are).1)) later

statement_states : (text : List ℕ) (line : List ℕ) (draft : ImageDraftView) (kind : Item) (operands : List (List ℕ)) (words : List ℕ) (others : List (List ℕ)) →
    StandsIn (line ∷ []) text draft → words_of line ≡ name_of kind ∷ operands → words_on (features_of draft.image.version) (name_of kind) operands ≡ Some words →
    AreStated text kind others (draft.next_address + 8 * length words) → AreStated text kind (items_of kind words ++ others) draft.next_address
statement_states text line draft item.Cmd operands words others stand parts are later = one_item text line draft item.Cmd operands words others (λ is. absurd cc) stand parts are later
statement_states text line draft item.Fault operands words others stand parts are later = one_item text line draft item.Fault operands words others (λ is. absurd cc) stand parts are later
statement_states text line draft item.Context operands words others stand parts are later =
    one_item text line draft item.Context operands words others (λ is. absurd cc) stand parts are later
statement_states text line draft item.Dir operands words others stand parts are later = one_item text line draft item.Dir operands words others (λ is. absurd cc) stand parts are later
statement_states text line draft item.Pte operands words others stand parts are later = one_item text line draft item.Pte operands words others (λ is. absurd cc) stand parts are later
statement_states text line draft item.Msi operands words others stand parts are later = one_item text line draft item.Msi operands words others (λ is. absurd cc) stand parts are later
statement_states text line draft item.Word operands words others stand parts are later =
    let place : draft.next_address + 8 * 0 ≡ draft.next_address = omega arith in
    subst (AreStated text item.Word (map (λ word. word ∷ []) words ++ others)) place
    (numbers_stated text line draft operands [] words others stand parts are later)

-- the line before others, whatever it states
abbrev Later : List ℕ → Features → Item → List (List ℕ) → List (List ℕ) → Type 0
Later text features kind lines others =
    (draft : ImageDraftView) → features_of draft.image.version ≡ features → StandsIn lines text draft → AreStated text kind others draft.next_address

blank_states : (text line : List ℕ) (draft : ImageDraftView) (kind : Item) (lines first others : List (List ℕ)) → StandsIn (line ∷ lines) text draft →
    words_of line ≡ [] → found [] ≡ Some first → Later text (features_of draft.image.version) kind lines others → AreStated text kind (first ++ others) draft.next_address
unfolding after_words
blank_states text line draft kind lines first others stand parts none later =
    let same : after_words (1 + length stand.before) (Some draft) (words_of line) ≡ Ok (Some draft) = rw parts refl in
    subst (λ (first : List (List ℕ)). AreStated text kind (first ++ others) draft.next_address) (some_is [] first none)
    (later draft refl (lines_after line lines text draft draft stand same))

line_states : (text line : List ℕ) (draft last : ImageDraftView) (kind : Item) (operands lines others : List (List ℕ)) (words : List ℕ)
    (stand : StandsIn (line ∷ lines) text draft) →
    after_lines (1 + length stand.before) (Some draft) ((line ∷ lines) ++ stand.after) ≡ Ok (Some last) →
    words_of line ≡ name_of kind ∷ operands → words_on (features_of draft.image.version) (name_of kind) operands ≡ Some words → Later text (features_of draft.image.version) kind lines others →
    AreStated text kind (items_of kind words ++ others) draft.next_address
unfolding after_lines
line_states text line draft last kind operands lines others words stand made parts are later =
    let number = 1 + length stand.before in
    let step = step_ok (after_words number (Some draft) (words_of line)) (λ next. after_lines (number + 1) next (lines ++ stand.after)) (Some last) made in
    let next : ImageDraftView = with_bytes draft (bytes_of_words words) in
    let goes : after_words number (Some draft) (words_of line) ≡ Ok (Some next) =
    step.1 ∙ ap (λ next. Ok next) (sym (after_item kind number draft step.0 words line operands parts are step.1)) in
    statement_states text line draft kind operands words others (line_in line lines text draft stand) parts are
    (subst (λ (n : ℕ). AreStated text kind others (draft.next_address + n)) (length_of_words words) (later next refl (lines_after line lines text draft next stand goes)))

first_states : (text line : List ℕ) (draft last : ImageDraftView) (kind : Item) (on lines first others : List (List ℕ)) (stand : StandsIn (line ∷ lines) text draft) →
    after_lines (1 + length stand.before) (Some draft) ((line ∷ lines) ++ stand.after) ≡ Ok (Some last) → words_of line ≡ on →
    items_on (features_of draft.image.version) kind on ≡ Some first → Later text (features_of draft.image.version) kind lines others →
    AreStated text kind (first ++ others) draft.next_address
unfolding items_on
first_states text line draft last kind [] lines first others stand made parts is later = blank_states text line draft kind lines first others stand parts is later
first_states text line draft last kind (name ∷ operands) lines first others stand made parts is later =
    let found = words_on (features_of draft.image.version) (name_of kind) operands in
    let named = where_found (bytes_eq name (name_of kind)) (option_map (items_of kind) found) first is in
    let words = made_of (items_of kind) found first named.1 in
    let statement : words_of line ≡ name_of kind ∷ operands = parts ∙ ap (λ name. name ∷ operands) (same_bytes name (name_of kind) named.0) in
    subst (λ (first : List (List ℕ)). AreStated text kind (first ++ others) draft.next_address) words.2
    (line_states text line draft last kind operands lines others words.0 stand made statement words.1 later)

follow : (text : List ℕ) (last draft : ImageDraftView) (kind : Item) (lines items : List (List ℕ)) → after_lines 1 None (lines_of text) ≡ Ok (Some last) →
    StandsIn lines text draft → items_in (features_of draft.image.version) kind lines ≡ Some items → AreStated text kind items draft.next_address
unfolding items_in
follow text last draft kind [] items made stand is =
    subst (λ (items : List (List ℕ)). AreStated text kind items draft.next_address) (some_is [] items is) tt
follow text last draft kind (line ∷ lines) items made stand is =
    let features = features_of draft.image.version in
    let a = both_found (items_on features kind (words_of line)) (λ first. items_in features kind lines >>= λ others. Some (first ++ others)) items is in
    let b = both_found (items_in features kind lines) (λ others. Some (a.0 ++ others)) items a.2 in
    subst (λ (items : List (List ℕ)). AreStated text kind items draft.next_address) (some_is (a.0 ++ b.0) items b.2)
    (first_states text line draft last kind (words_of line) lines a.0 b.0 stand (going_on text draft last (line ∷ lines) stand made) refl a.1
    (λ next same stands. follow text last next kind lines b.0 made stands (ap (λ features. items_in features kind lines) same ∙ b.1)))

pub follow_items : (text : List ℕ) (image : Image) (draft : ImageDraftView) (kind : Item) (lines items : List (List ℕ)) → described text ≡ Ok image →
    StandsIn lines text draft → items_in (features_of draft.image.version) kind lines ≡ Some items → AreStated text kind items draft.next_address
follow_items text image draft kind lines items is stand found =
    let last = last_of text image is in follow text last.0 draft kind lines items last.1 stand found
