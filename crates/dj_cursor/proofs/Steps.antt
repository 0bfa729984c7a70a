-- Steps that may fail, one after the other.
use Rattle.std.proofs.Common.{◌≡◌, Bool, true, false, cond, Result, Ok, Err, refl, ap, ◌∙◌}
use Rattle.dj_cursor.specs.Steps.{◌>>=◌, lifted, Fails}

-- the value of a step that did not fail
pub bind_ok : {A B E : Type 0} {r : Result A E} {f : A → Result B E} {y : B} → (r >>= f) ≡ Ok y → (x : A) × (r ≡ Ok x) × (f x ≡ Ok y)
bind_ok {r = Ok x} e = (x, refl, e)
bind_ok {r = Err d} e = absurd cc

pub bind_again : {A B E : Type 0} {r : Result A E} {x : A} {z : Result B E} (f : A → Result B E) → r ≡ Ok x → f x ≡ z → (r >>= f) ≡ z
bind_again f p q = ap (λ r. r >>= f) p ∙ q

-- steps that were put into one, each by itself
pub one_step : {A M B E : Type 0} (r : Result A E) (made : A → M) (k : M → Result B E) → ((r >>= λ a. Ok (made a)) >>= k) ≡ (r >>= λ a. k (made a))
one_step (Ok a) made k = refl
one_step (Err e) made k = refl

pub two_steps : {A B M R E : Type 0} (r : Result A E) (f : A → Result B E) (made : A → B → M) (k : M → Result R E) → ((r >>= λ a. f a >>= λ b. Ok (made a b)) >>= k) ≡ (r >>= λ a. f a >>= λ b. k (made a b))
two_steps (Ok a) f made k = one_step (f a) (made a) k
two_steps (Err e) f made k = refl

pub three_steps : {A B C M R E : Type 0} (r : Result A E) (f : A → Result B E) (g : A → B → Result C E) (made : A → B → C → M) (k : M → Result R E)
    → ((r >>= λ a. f a >>= λ b. g a b >>= λ c. Ok (made a b c)) >>= k) ≡ (r >>= λ a. f a >>= λ b. g a b >>= λ c. k (made a b c))
three_steps (Ok a) f g made k = two_steps (f a) (g a) (made a) k
three_steps (Err e) f g made k = refl

pub four_steps : {A B C D M R E : Type 0} (r : Result A E) (f : A → Result B E) (g : A → B → Result C E) (h : A → B → C → Result D E) (made : A → B → C → D → M) (k : M → Result R E)
    → ((r >>= λ a. f a >>= λ b. g a b >>= λ c. h a b c >>= λ d. Ok (made a b c d)) >>= k) ≡ (r >>= λ a. f a >>= λ b. g a b >>= λ c. h a b c >>= λ d. k (made a b c d))
four_steps (Ok a) f g h made k = three_steps (f a) (g a) (h a) (made a) k
four_steps (Err e) f g h made k = refl

-- a step that fails, or the value of a step before the one that fails
pub bind_err : {A B E P : Type 0} {r : Result A E} {f : A → Result B E} {e : E} → (r >>= f) ≡ Err e → (r ≡ Err e → P) → ((x : A) → r ≡ Ok x → f x ≡ Err e → P) → P
bind_err {r = Ok x} h one other = other x refl h
bind_err {r = Err d} h one other = one cc

pub bind_fails : {A B E : Type 0} {r : Result A E} {e : E} (f : A → Result B E) → r ≡ Err e → (r >>= f) ≡ Err e
bind_fails f p = ap (λ r. r >>= f) p

pub lifted_ok : {A D E : Type 0} {r : Result A D} {x : A} (up : D → E) → lifted up r ≡ Ok x → r ≡ Ok x
lifted_ok {r = Ok y} up h = cc
lifted_ok {r = Err d} up h = absurd cc

pub lifted_err : {A D E : Type 0} {up : D → E} {r : Result A D} {e : E} → lifted up r ≡ Err e → (d : D) × (r ≡ Err d) × (up d ≡ e)
lifted_err {r = Ok y} h = absurd cc
lifted_err {r = Err d} h = (d, refl, cc)

pub never_ok : {A E P : Type 0} {d : E} {x : A} → Err d ≡ Ok x → P
never_ok h = absurd cc

pub never_err : {A E P : Type 0} {d : E} {x : A} → Ok x ≡ Err d → P
never_err h = absurd cc

pub fails_both : {A E P : Type 0} {x : A} (b : Bool) (d e : E) → cond b (Err d) (Err e) ≡ Ok x → P
fails_both true d e h = absurd cc
fails_both false d e h = absurd cc

-- ---- tests

-- a test that did not fail
pub guard_ok : {A E : Type 0} {b : Bool} {x y : A} (d : E) → cond b (Ok x) (Err d) ≡ Ok y → (b ≡ true) × (x ≡ y)
guard_ok {b = true} d h = (refl, cc)
guard_ok {b = false} d h = absurd cc

pub guard_err : {A E : Type 0} {d e : E} (b : Bool) (x : A) → cond b (Ok x) (Err d) ≡ Err e → d ≡ e
guard_err true x h = absurd cc
guard_err false x h = cc

pub guard_again : {A E : Type 0} {b : Bool} {x : A} (d : E) → b ≡ true → cond b (Ok x) (Err d) ≡ Ok x
guard_again {x} d p = ap (λ b. cond b (Ok x) (Err d)) p

-- which branch was taken
pub cond_either : {A P : Type 0} {z : A} (b : Bool) (x y : A) → cond b x y ≡ z → (b ≡ true → x ≡ z → P) → (b ≡ false → y ≡ z → P) → P
cond_either true x y h one other = one refl h
cond_either false x y h one other = other refl h

pub cond_true : {A : Type 0} {b : Bool} {x z : A} (y : A) → b ≡ true → x ≡ z → cond b x y ≡ z
cond_true {x} y p q = ap (λ b. cond b x y) p ∙ q

pub cond_false : {A : Type 0} {b : Bool} {y z : A} (x : A) → b ≡ false → y ≡ z → cond b x y ≡ z
cond_false {y} x p q = ap (λ b. cond b x y) p ∙ q

-- ---- want of memory aside

-- a fault of the first step is one of the whole
pub fails_then : {A B E : Type 0} (out_of_memory : Bool) (e : E) (r : Result A E) (f : A → Result B E) → Fails out_of_memory e r → Fails out_of_memory e (r >>= f)
fails_then true e r f h = tt
fails_then false e r f h = bind_fails f h

-- a fault of a part is one of the whole
pub lifted_fails : {A D E : Type 0} (out_of_memory : Bool) (up : D → E) (e : D) (r : Result A D) → Fails out_of_memory e r → Fails out_of_memory (up e) (lifted up r)
lifted_fails true up e r h = tt
lifted_fails false up e r h = ap (lifted up) h
