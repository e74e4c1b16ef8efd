-- What is said of a result or an option, in either case.
use Rattle.std.proofs.Common.{◌≡◌, Option, Some, None, subst}
use Rattle.std.specs.Prelude.{IfNone, IfOk, IfSome, IsOk, OnOk, Result, Ok, Err}

pub of_none : {X : Type 0} (o : Option X) (P : Type 0) → o ≡ None → IfNone o P → P
of_none None P is h = h
of_none (Some x) P is h = absurd (cc)

pub of_some : {X : Type 0} (o : Option X) (P : X → Type 0) (x : X) → o ≡ Some x → IfSome o P → P x
of_some {X} o P x is h = subst (λ (o : Option X). IfSome o P) is h

pub if_none : {X : Type 0} (o : Option X) (P Q : Type 0) → (P → Q) → IfNone o P → IfNone o Q
if_none None P Q then h = then h
if_none (Some x) P Q then h = tt

pub if_some : {X : Type 0} (o : Option X) (P Q : X → Type 0) → ((x : X) → P x → Q x) → IfSome o P → IfSome o Q
if_some None P Q then h = tt
if_some (Some x) P Q then h = then x h

pub if_ok : {T E : Type 0} (r : Result T E) (P Q : T → Type 0) → ((x : T) → P x → Q x) → IfOk r P → IfOk r Q
if_ok (Ok x) P Q then h = then x h
if_ok (Err e) P Q then h = tt

pub on_ok : {T E : Type 0} (r : Result T E) (P Q : Type 0) → (P → Q) → OnOk r P → OnOk r Q
on_ok (Ok x) P Q then h = then h
on_ok (Err e) P Q then h = tt

pub on_both : {T E : Type 0} (r : Result T E) (P Q R : Type 0) → (P → Q → R) → OnOk r P → OnOk r Q → OnOk r R
on_both (Ok x) P Q R then h k = then h k
on_both (Err e) P Q R then h k = tt

pub ok_on : {T E : Type 0} (r : Result T E) (P : Type 0) → IsOk r → OnOk r P → P
ok_on (Ok x) P is h = h
ok_on (Err e) P is h = absurd (cc)
