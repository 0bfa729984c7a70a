-- The bodies of attributes of one name.
use Rattle.std.proofs.Common.{◌≡◌, ℕ, zero, suc, ◌+◌, ◌<◌, ◌≤◌, ◌^◌, Bool, true, false, cond, codes, List, [], ◌∷◌, ◌++◌, length, map, take, get_or, Bor, refl, sym, ap, ◌∙◌, subst, append-nil, arith}
use Rattle.std.specs.List.{flat_map, AllByRecursion}
use Rattle.std.proofs.lemmas.List.{take_more, map_push}
use Rattle.std.proofs.lemmas.Grind.{flat_map-append}
use Rattle.dj_class.specs.declared.class.Attribute.{Attribute}
use Rattle.dj_pool.specs.trusted.Pool.{Constant}
use Rattle.dj_class.specs.trusted.ClassFile.{AttributeInfo, IsAttribute}
use Rattle.dj_class.specs.trusted.Code.{CodeInfo, IsCodeAttribute}
use Rattle.dj_class.specs.Parts.{attribute_of}
use Rattle.dj_early_rules.specs.trusted.Attributes.{is_named, bodies_of, maps_of}

abbrev pub now_of : Bor (List ℕ) → List ℕ
now_of b = b.now

pub flat_map_turn : {X Y A : Type 0} (f : X → List A) (g : Y → X) (ys : List Y) (i : ℕ) (y : Y) → i < length ys
    → flat_map f (map g (take (i + 1) ys)) ≡ flat_map f (map g (take i ys)) ++ f (g (get_or ys i y))
flat_map_turn f g ys i y within =
    ap (flat_map f) (ap (map g) (take_more ys i y within) ∙ map_push g (take i ys) (get_or ys i y))
    ∙ flat_map-append f (map g (take i ys)) (g (get_or ys i y) ∷ [])
    ∙ ap (λ more. flat_map f (map g (take i ys)) ++ more) (append-nil (f (g (get_or ys i y))))

abbrev pub body_if : Bool → AttributeInfo → List (List ℕ)
body_if named a = cond named (a.body ∷ []) []

pub body_more : (pool : List Constant) (name : List ℕ) (attributes : List Attribute) (i : ℕ) (d : Attribute) (bodies more : List (Bor (List ℕ))) (named : Bool)
    → i < length attributes → named ≡ is_named pool name (attribute_of (get_or attributes i d))
    → map now_of more ≡ map now_of bodies ++ body_if named (attribute_of (get_or attributes i d))
    → map now_of bodies ≡ bodies_of pool name (map attribute_of (take i attributes))
    → map now_of more ≡ bodies_of pool name (map attribute_of (take (i + 1) attributes))
body_more pool name attributes i d bodies more named within e step so_far =
    let a = attribute_of (get_or attributes i d) in
    let before = bodies_of pool name (map attribute_of (take i attributes)) in
    step
    ∙ ap (λ (xs : List (List ℕ)). xs ++ body_if named a) so_far
    ∙ ap (λ (b : Bool). before ++ body_if b a) e
    ∙ sym (flat_map_turn (λ x. body_if (is_named pool name x) x) attribute_of attributes i d within)

pub pushed_body : (bodies more : List (Bor (List ℕ))) (body : Bor (List ℕ)) (a : AttributeInfo) (named : Bool) → named ≡ true → body.now ≡ a.body
    → more ≡ bodies ++ body ∷ [] → map now_of more ≡ map now_of bodies ++ body_if named a
pushed_body bodies more body a named is same step =
    ap (map now_of) step ∙ map_push now_of bodies body
    ∙ ap (λ (b : List ℕ). map now_of bodies ++ b ∷ []) same
    ∙ ap (λ (b : Bool). map now_of bodies ++ body_if b a) (sym is)

pub same_bodies : (bodies more : List (Bor (List ℕ))) (a : AttributeInfo) (named : Bool) → named ≡ false → more ≡ bodies
    → map now_of more ≡ map now_of bodies ++ body_if named a
same_bodies bodies more a named is step =
    ap (map now_of) step ∙ sym (append-nil (map now_of bodies))
    ∙ ap (λ (b : Bool). map now_of bodies ++ body_if b a) (sym is)

abbrev pub IsShort : List ℕ → Type 0
IsShort body = length body < 2 ^ 32

short_more : (named : Bool) (a : AttributeInfo) (bodies : List (List ℕ)) → IsShort a.body → AllByRecursion IsShort bodies → AllByRecursion IsShort (body_if named a ++ bodies)
short_more true a bodies short all = (short, all)
short_more false a bodies short all = all

bodies_short : (pool : List Constant) (name : List ℕ) (attributes : List AttributeInfo) → AllByRecursion (IsAttribute pool) attributes → AllByRecursion IsShort (bodies_of pool name attributes)
bodies_short pool name [] all = tt
bodies_short pool name (a ∷ attributes) all =
    short_more (is_named pool name a) a (bodies_of pool name attributes) all.0.body (bodies_short pool name attributes all.1)

code_bodies_short : (pool : List Constant) (name : List ℕ) (attributes : List AttributeInfo) → AllByRecursion IsCodeAttribute attributes → AllByRecursion IsShort (bodies_of pool name attributes)
code_bodies_short pool name [] all = tt
code_bodies_short pool name (a ∷ attributes) all =
    short_more (is_named pool name a) a (bodies_of pool name attributes) all.0.body (code_bodies_short pool name attributes all.1)

pub maps_short : (pool : List Constant) (info : CodeInfo) (maps : List (List ℕ)) → AllByRecursion IsCodeAttribute info.attributes → maps_of pool info ≡ maps → AllByRecursion IsShort maps
maps_short pool info maps all are = subst (AllByRecursion IsShort) are (code_bodies_short pool (codes "StackMapTable") info.attributes all)

pub body_short : (pool : List Constant) (name : List ℕ) (attributes : List AttributeInfo) (body : List ℕ) → AllByRecursion (IsAttribute pool) attributes
    → bodies_of pool name attributes ≡ body ∷ [] → IsShort body
body_short pool name attributes body all one = (subst (AllByRecursion IsShort) one (bodies_short pool name attributes all)).0

-- one slice
pub only_body : (bodies : List (Bor (List ℕ))) (d : Bor (List ℕ)) → 1 ≤ length bodies → length bodies ≤ 1 → map (λ (b : Bor (List ℕ)). b.now) bodies ≡ (get_or bodies 0 d).now ∷ []
only_body [] d some few = absurd (omega arith)
only_body (b ∷ []) d some few = refl
only_body (b ∷ (b2 ∷ more)) d some few = absurd (omega arith)

-- no slices
pub no_body : (bodies : List (Bor (List ℕ))) → length bodies ≤ 0 → map (λ (b : Bor (List ℕ)). b.now) bodies ≡ []
no_body [] none = refl
no_body (b ∷ more) none = absurd (omega arith)

abbrev pub no_bytes : Bor (List ℕ)
no_bytes = record { ref_ptr = (0, 0); now = [] }

-- each is short
short_each : (bodies : List (Bor (List ℕ))) → AllByRecursion IsShort (map now_of bodies) → (k : ℕ) (d : Bor (List ℕ)) → k < length bodies → IsShort (get_or bodies k d).now
short_each [] all k d lt = absurd (omega arith)
short_each (b ∷ bodies) all zero d lt = all.0
short_each (b ∷ bodies) all (suc k) d lt = short_each bodies all.1 k d (omega arith)

pub each_short : (pool : List Constant) (name : List ℕ) (attributes : List AttributeInfo) (bodies : List (Bor (List ℕ))) → AllByRecursion (IsAttribute pool) attributes
    → map now_of bodies ≡ bodies_of pool name attributes → (k : ℕ) (d : Bor (List ℕ)) → k < length bodies → IsShort (get_or bodies k d).now
each_short pool name attributes bodies all are = short_each bodies (subst (AllByRecursion IsShort) (sym are) (bodies_short pool name attributes all))

-- so is each of the stack maps of code
pub each_map_short : (pool : List Constant) (info : CodeInfo) (bodies : List (Bor (List ℕ))) → AllByRecursion IsCodeAttribute info.attributes
    → map now_of bodies ≡ maps_of pool info → (k : ℕ) (d : Bor (List ℕ)) → k < length bodies → IsShort (get_or bodies k d).now
each_map_short pool info bodies all are = short_each bodies (subst (AllByRecursion IsShort) (sym are) (code_bodies_short pool (codes "StackMapTable") info.attributes all))
