-- What is known of one result.
use Rattle.std.specs.Prelude.{Result, Ok, Err, IfOk, OnOk}

pub if_ok : {A E : Type 0} {P Q : A → Type 0} (r : Result A E) → IfOk r P → ((a : A) → P a → Q a) → IfOk r Q
if_ok (Ok a) h f = f a h
if_ok (Err e) h f = tt

-- what is known of one result
pub together : {A E : Type 0} {K : Type 0} {P Q R : A → Type 0} (r : Result A E) → OnOk r K → IfOk r P → IfOk r Q → ((a : A) → K → P a → Q a → R a) → IfOk r R
together (Ok a) k p q f = f a k p q
together (Err e) k p q f = tt
