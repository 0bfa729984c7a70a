-- Rewritten files have one program at most.
use Rattle.std.proofs.Common.{◌≡◌, suc, List, [], ◌∷◌, map, refl, sym, ap, ◌∙◌, arith, inl, inr}
use Rattle.std.specs.Prelude.{Contains}
use Rattle.std.specs.List.{AllByRecursion}
use Rattle.dj_names.specs.trusted.Library.{Library}
use Rattle.dj_pool.specs.trusted.Pool.{Constant}
use Rattle.dj_class.specs.trusted.ClassFile.{MemberInfo, ClassFile}
use Rattle.dj_early_rules.specs.trusted.Malformed.{IsFaultyMethod, HasFaultyMethod}
use Rattle.dj_model.specs.trusted.Program.{Program, Class, Method, Body, Runs}
use Rattle.dj_model.specs.trusted.Libraries.{joined, library_program}
use Rattle.dj_declarations.specs.trusted.Files.{declared_method, declared_class}
use Rattle.dj_program.specs.trusted.Codes.{CodeParts, code_in}
use Rattle.dj_program.specs.trusted.Programs.{AreSideBySide, IsBodyIn, IsMethodIn, field_in_file, IsClassIn, IsProgramIn}
use Rattle.dj_program.proofs.Once.{one_code_parts}

one_body : (pool : List Constant) (m : MemberInfo) (a b : Body) → (IsFaultyMethod pool m → ⊥) → IsBodyIn pool m a → IsBodyIn pool m b → a ≡ b
one_body pool m a b sound (inl (t, x)) (inl (u, y)) = x ∙ sym y
one_body pool m a b sound (inl (t, x)) (inr (u, parts, is, y)) = absurd cc
one_body pool m a b sound (inr (t, parts, is, x)) (inl (u, y)) = absurd cc
one_body pool m a b sound (inr (t, parts, is, x)) (inr (u, others, are, y)) =
    let same : parts ≡ others = one_code_parts pool m parts others sound is are in
    x ∙ ap (λ (p : CodeParts). Runs (code_in pool p)) same ∙ sym y

one_method : (pool : List Constant) (m : MemberInfo) (a b : Method) → (IsFaultyMethod pool m → ⊥) → IsMethodIn pool m a → IsMethodIn pool m b → a ≡ b
one_method pool m a b sound x y =
    let same : x.body ≡ y.body = one_body pool m x.body y.body sound x.is_body y.is_body in
    x.is ∙ ap (λ (body : Body). record (declared_method pool m) { body = body }) same ∙ sym y.is

one_methods : (pool : List Constant) (ms : List MemberInfo) (xs ys : List Method) → ((m : MemberInfo) → Contains ms m → IsFaultyMethod pool m → ⊥)
    → AreSideBySide (IsMethodIn pool) ms xs → AreSideBySide (IsMethodIn pool) ms ys → xs ≡ ys
one_methods pool [] [] [] sound p q = refl
one_methods pool [] [] (y ∷ ys) sound p q = absurd q
one_methods pool [] (x ∷ xs) ys sound p q = absurd p
one_methods pool (m ∷ ms) [] ys sound p q = absurd p
one_methods pool (m ∷ ms) (x ∷ xs) [] sound p q = absurd q
one_methods pool (m ∷ ms) (x ∷ xs) (y ∷ ys) sound p q =
    let first : x ≡ y = one_method pool m x y (sound m (0, omega arith, refl)) p.0 q.0 in
    let rest : xs ≡ ys = one_methods pool ms xs ys (λ other (k, lt, is). sound other (suc k, omega (arith, lt), is)) p.1 q.1 in
    cc

one_class : (c : ClassFile) (a b : Class) → (HasFaultyMethod c → ⊥) → IsClassIn c a → IsClassIn c b → a ≡ b
one_class c a b sound x y =
    let same : x.methods ≡ y.methods = one_methods c.pool c.methods x.methods y.methods (λ m has faulty. sound (m, has, faulty)) x.each y.each in
    x.is ∙ ap (λ (ms : List Method). record (declared_class c) { fields = map (field_in_file c.pool) c.fields; methods = ms }) same ∙ sym y.is

one_list : (files : List ClassFile) (xs ys : List Class) → AllByRecursion (λ c. HasFaultyMethod c → ⊥) files → AreSideBySide IsClassIn files xs → AreSideBySide IsClassIn files ys → xs ≡ ys
one_list [] [] [] sound p q = refl
one_list [] [] (y ∷ ys) sound p q = absurd q
one_list [] (x ∷ xs) ys sound p q = absurd p
one_list (c ∷ files) [] ys sound p q = absurd p
one_list (c ∷ files) (x ∷ xs) [] sound p q = absurd q
one_list (c ∷ files) (x ∷ xs) (y ∷ ys) sound p q =
    let first : x ≡ y = one_class c x y sound.0 p.0 q.0 in
    let rest : xs ≡ ys = one_list files xs ys sound.1 p.1 q.1 in
    cc

-- Files without faulty methods have one program at most.
pub one_program : (library : Library) (files : List ClassFile) (a b : Program) → AllByRecursion (λ c. HasFaultyMethod c → ⊥) files → IsProgramIn library files a → IsProgramIn library files b → a ≡ b
one_program library files a b sound x y =
    x.is ∙ ap (λ (classes : List Class). joined classes (library_program library)) (one_list files x.classes y.classes sound x.each y.each) ∙ sym y.is
