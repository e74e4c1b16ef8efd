-- Aligned ranges of pages, and the pages that two of them have in common: RISC-V IOMMU Architecture 1.0, "IOTINVAL".
use Rattle.std.specs.Prelude.{ℕ, ◌≡◌, ◌*◌, ◌/◌, ◌^◌, ◌<◌, true}
use Rattle.std.specs.Int.{bit_at}
use Rattle.iom_cache.specs.Drops.{meets, range_width}

-- a page is among the 2 ^ width pages, aligned, around another: above that many bits their numbers are the same
abbrev pub IsAround : ℕ → ℕ → ℕ → Type 0
IsAround page width one = one / 2 ^ width ≡ page / 2 ^ width

-- a page that both ranges have
pub record HaveCommonPage (page width own own_width : ℕ) : Type 0 where
  pub common : ℕ
  pub first : IsAround page width common
  pub second : IsAround own own_width common

-- Two ranges meet exactly if they have a page in common.
abbrev pub MeetInPages : Type 0
MeetInPages =
    (page width own own_width : ℕ) →
    (meets page width own own_width ≡ true → HaveCommonPage page width own own_width)
    × (HaveCommonPage page width own own_width → meets page width own own_width ≡ true)

-- A page's number that names 2 ^ (low + 1) pages with S: its bit `low` is 0, and all bits below that are 1.
pub record NamesRange (page low : ℕ) : Type 0 where
  pub zero : bit_at page low ≡ 0
  pub ones : (i : ℕ) → i < low → bit_at page i ≡ 1

-- The range of a command with S has as many pages as its address names, which has 52 bits above the twelve of a page.
abbrev pub HasNamedPages : Type 0
HasNamedPages = (page low : ℕ) → page < 2 ^ 52 → NamesRange page low → 2 ^ range_width true page ≡ 2 * 2 ^ low
