-- The steps of a script, and a script of which no line fails while settledness is judged: RISC-V IOMMU Architecture 1.0, "Caching in-memory
-- data structures".
use Rattle.std.specs.Prelude.{ℕ, ◌≡◌, ◌⊎◌, ◌++◌, true, false, List, [], ◌∷◌, map, take, reverse, IsSomeAnd}
use Rattle.iom_choices.specs.Models.{end_of as reached}
use Rattle.iom_choices.specs.Systems.{IsAmong}
use Rattle.iom_core.specs.Run.{end_of}
use Rattle.iom_core.specs.State.{State}
use Rattle.iom_core.specs.Table.{request_of_step}
use Rattle.iom_core.specs.Warrants.{IsUncached}
use Rattle.iom_core.specs.declared.access.Request.{Request}
use Rattle.iom_core.specs.declared.step.Step.{Step}
use Rattle.iom_every.specs.Every.{platform}
use Rattle.iom_reader.specs.Speaking.{Speaks}
use Rattle.iom_names.specs.Reading.{names_after}
use Rattle.iom_names.specs.declared.names.Binding.{Binding}
use Rattle.iom_owed.specs.Holdings.{Keeps, Makes, at_page}
use Rattle.iom_owed.specs.Settled.{IsSettledBefore, IsSettledNow}
use Rattle.iom_debug.specs.Output.{debug_steps_of}
use Rattle.iom_debug.specs.Settling.{is_lost_in}
use Rattle.iom_check.specs.Checking.{Checked, checking}
use Rattle.iom_check.specs.Judging.{allows_unsettled}
use Rattle.iom_check.specs.Wanted.{wanted}

-- the steps of lines, one line after the other, each by the names and the state before it; the first 513 bytes of a line tell its steps
abbrev pub steps_in : List Binding → State → List (List ℕ) → List Step
steps_in names state [] = []
steps_in names state (text ∷ lines) =
    let line = take 513 text in
    let steps = debug_steps_of names state line in
    steps ++ steps_in (names_after names line) (end_of state steps) lines

-- those of a script from where its check begins
abbrev pub script_steps : Checked → List (List ℕ) → List Step
script_steps start lines = steps_in start.desk.names start.desk.state lines

abbrev pub newest_first : Checked → List (List ℕ) → List Step
newest_first start lines = reverse (script_steps start lines)

-- A check begins where nothing is cached, no step was taken and no failure was about a page, and by its rules an access fails that isn't settled.
-- These requests may be read ahead.
pub record BeginsSettled (ahead : List Request) (start : Checked) : Type 0 where
  pub uncached : IsUncached start.desk.state
  pub untaken : IsSomeAnd start.desk.reasons.settling (λ settling. settling.is_lost ≡ false → Keeps ahead settling.holdings start.desk.state start.desk.state [])
  pub judged : start.score.rules.fails_if_unsettled ≡ true
  pub unreported : start.score.pages ≡ []

-- no line's wish allows an access that isn't settled; the first 513 bytes of a line tell its wish
abbrev pub WantSettled : List (List ℕ) → Type 0
WantSettled [] = Unit {0}
WantSettled (text ∷ lines) = (allows_unsettled (wanted (take 513 text)) ≡ false) × WantSettled lines

-- From there lines were carried out and told, whose wishes allow no access that isn't settled. None failed, and memory wasn't refused for what
-- is told of settledness.
pub record PassesSettled (ahead : List Request) (start : Checked) (lines : List (List ℕ)) (text : List ℕ) (end : Checked) : Type 0 where
  pub begins : BeginsSettled ahead start
  pub wishes : WantSettled lines
  pub said : Speaks checking start lines text end
  pub passed : end.score.tally.failed ≡ 0
  pub known : is_lost_in end.desk.reasons.settling ≡ false

-- the access of each of these steps is settled just before it; `older` are the steps before them, newest first
abbrev pub AreSettledBehind : List Request → State → List Step → List Step → Type 0
AreSettledBehind ahead start older [] = Unit {0}
AreSettledBehind ahead start older (step ∷ steps) =
    IsSettledBefore ahead start older (request_of_step (reached platform start older) step) × AreSettledBehind ahead start (step ∷ older) steps

-- so is that of each step of these lines whose line's wish doesn't allow another
abbrev pub AreLinesSettled : List Request → State → List Step → List Binding → State → List (List ℕ) → Type 0
AreLinesSettled ahead start older names state [] = Unit {0}
AreLinesSettled ahead start older names state (text ∷ lines) =
    let line = take 513 text in
    let steps = debug_steps_of names state line in
    (allows_unsettled (wanted line) ≡ false → AreSettledBehind ahead start older steps)
    × AreLinesSettled ahead start (reverse steps ++ older) (names_after names line) (end_of state steps) lines

-- a step of these, newest first, makes the request, which is for the first byte of its page
abbrev pub IsMade : State → List Step → Request → Type 0
IsMade start [] request = ⊥
IsMade start (last ∷ steps) request = Makes start steps last request ⊎ IsMade start steps request

-- nothing is owed after these steps, newest first: each request that they made, or that may be read ahead, is settled
abbrev pub IsNothingOwed : List Request → State → List Step → Type 0
IsNothingOwed ahead start steps = (request : Request) → IsMade start steps request ⊎ IsAmong (map at_page ahead) request → IsSettledNow ahead start steps request
