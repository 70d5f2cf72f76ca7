-- What a test of a result says.
use Rattle.std.proofs.Common.{◌≡◌, true, false}
use Rattle.std.specs.Prelude.{Result, Ok, Err, is_err, OnOk, OnErr}

pub on_err : {T E P : Type 0} (r : Result T E) → true ≡ is_err r → OnErr r P → P
on_err (Ok x) e p = absurd (cc)
on_err (Err x) e p = p

pub on_ok : {T E P : Type 0} (r : Result T E) → false ≡ is_err r → OnOk r P → P
on_ok (Ok x) e p = p
on_ok (Err x) e p = absurd (cc)
