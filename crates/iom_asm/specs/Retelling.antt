-- On the machine of a text's image the lines of the items in memory say again what the text states.
use Rattle.std.specs.Prelude.{ℕ, ◌≡◌, ◌+◌, ◌*◌, ◌++◌, List, [], ◌∷◌, length, map, bytes_eq, Option, Some, None, Ok}
use Rattle.std.specs.Option.{option_map}
use Rattle.iom_text.specs.Words.{words_of}
use Rattle.iom_bits.specs.Features.{Features}
use Rattle.iom_ddt.specs.Formats.{context_format}
use Rattle.iom_ddt.specs.declared.formats.ContextFormat.{ContextFormat}
use Rattle.iom_image.specs.Versions.{features_of}
use Rattle.iom_items.specs.declared.item.Item.{Item}
use Rattle.iom_items.specs.declared.item.Item.TheVariants as item
use Rattle.iom_image.specs.Image.{Image, image_bytes}
use Rattle.iom_items.specs.Items.{name_of, words_in}
use Rattle.iom_items.specs.Forms.{where_so, words_on}
use Rattle.iom_items.specs.Lines.{line_of, item_line_on}
use Rattle.iom_asm.specs.Listing.{listed}
use Rattle.iom_items.specs.Operands.{◌>>=◌}
use Rattle.iom_image.specs.Loading.{opening_of}
use Rattle.iom_image.specs.Reading.{image_of}
use Rattle.iom_asm.specs.Assembly.{ImageDraftView, lines_of, after_lines, described}

-- these lines of a text stand between others, and this is what the statements before them make
pub record StandsIn (lines : List (List ℕ)) (text : List ℕ) (draft : ImageDraftView) : Type 0 where
  pub before : List (List ℕ)
  pub after : List (List ℕ)
  pub parts : lines_of text ≡ before ++ (lines ++ after)
  pub made : after_lines 1 None before ≡ Ok (Some draft)

-- a line is a statement of this kind on a machine with these features, and an item's words are among its words, behind so many others
pub record States (features : Features) (line : List ℕ) (kind : Item) (words : List ℕ) (skipped : ℕ) : Type 0 where
  pub operands : List (List ℕ)
  pub statement : words_of line ≡ name_of kind ∷ operands
  pub before : List ℕ
  pub after : List ℕ
  pub parts : words_on features (name_of kind) operands ≡ Some (before ++ (words ++ after))
  pub one : length words ≡ words_in (context_format features) kind
  pub behind : length before ≡ skipped

-- a line of a text states an item, by the features stated before it, and places its words at this physical address
pub record IsStated (text : List ℕ) (kind : Item) (words : List ℕ) (addr : ℕ) : Type 0 where
  pub line : List ℕ
  pub draft : ImageDraftView
  pub skipped : ℕ
  pub stands : StandsIn (line ∷ []) text draft
  pub states : States (features_of draft.image.version) line kind words skipped
  pub place : addr ≡ draft.next_address + 8 * skipped

-- items of one kind are stated, each at the end of the one before, wherever the text does so
abbrev pub AreStated : List ℕ → Item → List (List ℕ) → ℕ → Type 0
AreStated text kind [] addr = Unit {0}
AreStated text kind (words ∷ items) addr = IsStated text kind words addr × AreStated text kind items (addr + 8 * length words)

-- their lines, each with its line end, where contexts have this format
abbrev pub lines_told : ContextFormat → Item → List (List ℕ) → List ℕ
lines_told format kind [] = []
lines_told format kind (words ∷ items) = (line_of format kind words ++ 10 ∷ []) ++ lines_told format kind items

-- The image that a text describes is read as that image.
abbrev pub ReadsAgain : Type 0
ReadsAgain = (text : List ℕ) (image : Image) → described text ≡ Ok image → image_of (image_bytes image) ≡ Ok image

-- In the memory that it starts, where an item is stated, the item's line on its machine is that of its words as such an item.
abbrev pub TellsItems : Type 0
TellsItems =
    (text : List ℕ) (image : Image) (kind : Item) (words : List ℕ) (addr : ℕ) → described text ≡ Ok image →
    IsStated text kind words addr →
    item_line_on (opening_of image).memory (opening_of image).features kind addr
    ≡ Some (line_of (context_format (opening_of image).features) kind words)

-- Items of one kind that follow each other are listed in order.
abbrev pub ListsItems : Type 0
ListsItems =
    (text : List ℕ) (image : Image) (kind : Item) (items : List (List ℕ)) (addr : ℕ) → described text ≡ Ok image →
    AreStated text kind items addr →
    listed (opening_of image).memory (opening_of image).features kind addr (length items)
    ≡ Some (lines_told (context_format (opening_of image).features) kind items)

-- the items that a statement's words are: of numbers each is one
abbrev pub items_of : Item → List ℕ → List (List ℕ)
items_of item.Word words = map (λ word. word ∷ []) words
items_of item.Cmd words = words ∷ []
items_of item.Fault words = words ∷ []
items_of item.Context words = words ∷ []
items_of item.Dir words = words ∷ []
items_of item.Pte words = words ∷ []
items_of item.Msi words = words ∷ []

-- the items of one kind that lines state on a machine with these features; a line without words states none; None: a line states
-- something else
unfoldable pub items_on : Features → Item → List (List ℕ) → Option (List (List ℕ))
items_on features kind [] = Some []
items_on features kind (name ∷ operands) =
    where_so (bytes_eq name (name_of kind)) (option_map (items_of kind) (words_on features (name_of kind) operands))

unfoldable pub items_in : Features → Item → List (List ℕ) → Option (List (List ℕ))
items_in features kind [] = Some []
items_in features kind (line ∷ lines) = do
  first ← items_on features kind (words_of line)
  others ← items_in features kind lines
  Some (first ++ others)

-- Lines that state items of one kind and nothing else state them one behind the other.
abbrev pub FollowItems : Type 0
FollowItems =
    (text : List ℕ) (image : Image) (draft : ImageDraftView) (kind : Item) (lines items : List (List ℕ)) → described text ≡ Ok image →
    StandsIn lines text draft → items_in (features_of draft.image.version) kind lines ≡ Some items → AreStated text kind items draft.next_address
