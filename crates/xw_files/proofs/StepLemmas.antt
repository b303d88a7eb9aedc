-- What follows from a step that succeeded.
use Rattle.std.proofs.Common.{◌≡◌, Bool, true, false, cond, refl, Ok, Err}
use Rattle.std.specs.Prelude.{Result}
use Rattle.xw_files.specs.Steps.{◌>>=◌}
use Rattle.xw_files.specs.declared.fault.ReadFault.{ReadFault}

abbrev done : {A : Type 0} → A → Result A ReadFault
done x = Ok x

pub ok_is : {A : Type 0} (x y : A) → done x ≡ done y → x ≡ y
ok_is x y e = cc

-- if both steps together succeed, the first one does, and the second does on its result
pub bind_ok : {A B : Type 0} (r : Result A ReadFault) (f : A → Result B ReadFault) (y : B) → (r >>= f) ≡ Ok y → (x : A) × (r ≡ Ok x) × (f x ≡ Ok y)
bind_ok (Ok x) f y e = (x, refl, e)
bind_ok (Err fault) f y e = cc

-- a test that must pass
pub passed : {A : Type 0} (b : Bool) (r : Result A ReadFault) (fault : ReadFault) (y : A) → cond b r (Err fault) ≡ Ok y → (b ≡ true) × (r ≡ Ok y)
passed true r fault y e = (refl, e)
passed false r fault y e = cc

-- a test that must fail
pub avoided : {A : Type 0} (b : Bool) (r : Result A ReadFault) (fault : ReadFault) (y : A) → cond b (Err fault) r ≡ Ok y → (b ≡ false) × (r ≡ Ok y)
avoided true r fault y e = cc
avoided false r fault y e = (refl, e)
