use Rattle.std.proofs.Common.{◌≡◌, ◌<◌, ◌≤◌, ◌*◌, ◌++◌, None, take, drop}
use Rattle.std.specs.Option.{option_map}
use Rattle.std.specs.Result.{result_ok}
use Rattle.hex.specs.Hex.{decode_pairs}
use Rattle.iom_tool.proofs.data.decode.Given as goal

-- where only digits were met what is left gives the bytes that follow
abbrev pub invariant-loop-i : goal.invariant-loop-i
invariant-loop-i l =
    (l.met < 16 → result_ok (decode_pairs 0 l.word) ≡ option_map (λ more. take l.i l.bytes ++ more) (result_ok (decode_pairs (2 * l.i) (drop (2 * l.i) l.word))))
    × (16 ≤ l.met → result_ok (decode_pairs 0 l.word) ≡ None)
