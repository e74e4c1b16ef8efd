-- What is in two Ok answers that are one is one.
use Rattle.std.proofs.Common.{◌≡◌, Result, Ok}

pub ok_is : {A E : Type 0} (x y : A) → (let one : Result A E = Ok x in let other : Result A E = Ok y in one ≡ other) → x ≡ y
ok_is x y is = cc
