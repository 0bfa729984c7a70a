-- Straight code: what a search answers, and that bodies have one straight code at most.
use Rattle.std.proofs.Common.{◌≡◌, ℕ, ◌+◌, ◌<◌, ◌≤◌, ◌^◌, Bool, true, false, cond, List, [], ◌∷◌, ◌++◌, length, map, take, get_or, Option, Some, None, Result, IfOk, Bor, refl, sym, ap, ◌∙◌, subst, append-nil, arith, codes}
use Rattle.std.specs.List.{flat_map, AllByRecursion}
use Rattle.std.proofs.lemmas.List.{take_more, map_push}
use Rattle.std.proofs.lemmas.Grind.{flat_map-append}
use Rattle.dj_class.specs.declared.class.Attribute.{Attribute}
use Rattle.dj_pool.specs.trusted.Pool.{Constant}
use Rattle.dj_class.specs.trusted.ClassFile.{AttributeInfo, IsAttribute}
use Rattle.dj_class.specs.Parts.{attribute_of}
use Rattle.dj_class.specs.trusted.Code.{CodeInfo, IsCode}
use Rattle.dj_class.proofs.CodeLaws.{one_code}
use Rattle.dj_straight.specs.trusted.Program.{Code}
use Rattle.dj_straight.specs.Finds.{Finds, now_of}
use Rattle.dj_straight.specs.trusted.Straight.{is_named, bodies_of, IsStraightCode, IsStraightBody, HasStraightCode}
use Rattle.dj_edge.proofs.Lists.{ok_so}

-- ---- what a search answers

pub finds_so : {X Y : Type 0} (view : X → Y) (P Q : Y → Type 0) → ((y : Y) → P y → Q y) → ((y : Y) → Q y → P y) → (found : Option X) → Finds view P found → Finds view Q found
finds_so view P Q there back None none = λ y q. none y (back y q)
finds_so view P Q there back (Some x) is = there (view x) is

pub ok_finds : {X Y E : Type 0} (r : Result (Option X) E) (view : X → Y) (P Q : Y → Type 0) → ((y : Y) → P y → Q y) → ((y : Y) → Q y → P y) → IfOk r (Finds view P) → IfOk r (Finds view Q)
ok_finds r view P Q there back = ok_so r (Finds view P) (Finds view Q) (finds_so view P Q there back)

-- ---- bodies of attributes

pub flat_map_turn : {X Y A : Type 0} (f : X → List A) (g : Y → X) (ys : List Y) (i : ℕ) (y : Y) → i < length ys
    → flat_map f (map g (take (i + 1) ys)) ≡ flat_map f (map g (take i ys)) ++ f (g (get_or ys i y))
flat_map_turn f g ys i y within =
    ap (flat_map f) (ap (map g) (take_more ys i y within) ∙ map_push g (take i ys) (get_or ys i y))
    ∙ flat_map-append f (map g (take i ys)) (g (get_or ys i y) ∷ [])
    ∙ ap (λ more. flat_map f (map g (take i ys)) ++ more) (append-nil (f (g (get_or ys i y))))

abbrev pub body_if : Bool → AttributeInfo → List (List ℕ)
body_if named a = cond named (a.body ∷ []) []

pub body_more : (pool : List Constant) (name : List ℕ) (attributes : List Attribute) (i : ℕ) (d : Attribute) (bodies more : List (Bor (List ℕ))) (named : Bool)
    → i < length attributes → named ≡ is_named pool name (attribute_of (get_or attributes i d))
    → map now_of more ≡ map now_of bodies ++ body_if named (attribute_of (get_or attributes i d))
    → map now_of bodies ≡ bodies_of pool name (map attribute_of (take i attributes))
    → map now_of more ≡ bodies_of pool name (map attribute_of (take (i + 1) attributes))
body_more pool name attributes i d bodies more named within e step so_far =
    let a = attribute_of (get_or attributes i d) in
    let before = bodies_of pool name (map attribute_of (take i attributes)) in
    step
    ∙ ap (λ (xs : List (List ℕ)). xs ++ body_if named a) so_far
    ∙ ap (λ (b : Bool). before ++ body_if b a) e
    ∙ sym (flat_map_turn (λ x. body_if (is_named pool name x) x) attribute_of attributes i d within)

pub pushed_body : (bodies more : List (Bor (List ℕ))) (body : Bor (List ℕ)) (a : AttributeInfo) (named : Bool) → named ≡ true → body.now ≡ a.body
    → more ≡ bodies ++ body ∷ [] → map now_of more ≡ map now_of bodies ++ body_if named a
pushed_body bodies more body a named is same step =
    ap (map now_of) step ∙ map_push now_of bodies body
    ∙ ap (λ (b : List ℕ). map now_of bodies ++ b ∷ []) same
    ∙ ap (λ (b : Bool). map now_of bodies ++ body_if b a) (sym is)

pub same_bodies : (bodies more : List (Bor (List ℕ))) (a : AttributeInfo) (named : Bool) → named ≡ false → more ≡ bodies
    → map now_of more ≡ map now_of bodies ++ body_if named a
same_bodies bodies more a named is step =
    ap (map now_of) step ∙ sym (append-nil (map now_of bodies))
    ∙ ap (λ (b : Bool). map now_of bodies ++ body_if b a) (sym is)

abbrev pub IsShort : List ℕ → Type 0
IsShort body = length body < 2 ^ 32

short_more : (named : Bool) (a : AttributeInfo) (bodies : List (List ℕ)) → IsShort a.body → AllByRecursion IsShort bodies → AllByRecursion IsShort (body_if named a ++ bodies)
short_more true a bodies short all = (short, all)
short_more false a bodies short all = all

bodies_short : (pool : List Constant) (name : List ℕ) (attributes : List AttributeInfo) → AllByRecursion (IsAttribute pool) attributes → AllByRecursion IsShort (bodies_of pool name attributes)
bodies_short pool name [] all = tt
bodies_short pool name (a ∷ attributes) all =
    short_more (is_named pool name a) a (bodies_of pool name attributes) all.0.body (bodies_short pool name attributes all.1)

pub body_short : (pool : List Constant) (name : List ℕ) (attributes : List AttributeInfo) (body : List ℕ) → AllByRecursion (IsAttribute pool) attributes
    → bodies_of pool name attributes ≡ body ∷ [] → IsShort body
body_short pool name attributes body all one = (subst (AllByRecursion IsShort) one (bodies_short pool name attributes all)).0

-- one slice
pub only_body : (bodies : List (Bor (List ℕ))) (d : Bor (List ℕ)) → 1 ≤ length bodies → length bodies ≤ 1 → map (λ (b : Bor (List ℕ)). b.now) bodies ≡ (get_or bodies 0 d).now ∷ []
only_body [] d some few = absurd (omega arith)
only_body (b ∷ []) d some few = refl
only_body (b ∷ (b2 ∷ more)) d some few = absurd (omega arith)

-- ---- straight code

pub code_body : (pool : List Constant) (body : List ℕ) (info : CodeInfo) → IsCode body info
    → ((code : Code) → IsStraightCode pool info code → IsStraightBody pool body code) × ((code : Code) → IsStraightBody pool body code → IsStraightCode pool info code)
code_body pool body info is = (
  λ code straight. (info, is, straight),
  λ code whole. subst (λ i. IsStraightCode pool i code) (one_code body whole.0 info whole.1 is) whole.2,
)

one_item : (a b : List ℕ) (xs : List (List ℕ)) → xs ≡ a ∷ [] → xs ≡ b ∷ [] → a ≡ b
one_item a b xs p q = cc

pub body_attributes : (pool : List Constant) (attributes : List AttributeInfo) (body : List ℕ) → bodies_of pool (codes "Code") attributes ≡ body ∷ []
    → ((code : Code) → IsStraightBody pool body code → HasStraightCode pool attributes code) × ((code : Code) → HasStraightCode pool attributes code → IsStraightBody pool body code)
body_attributes pool attributes body one = (
  λ code straight. record { body = body; one_code = one; straight = straight },
  λ code has. subst (λ b. IsStraightBody pool b code) (one_item has.body body (bodies_of pool (codes "Code") attributes) has.one_code one) has.straight,
)
