-- The class files of accepted files are rewritable, and the class of each `new` is there.
use Rattle.std.proofs.Common.{◌≡◌, ℕ, Bool, true, false, ◌||◌, List, [], ◌∷◌, ◌++◌, Contains, refl, sym, ap, ◌∙◌, subst, inl, inr}
use Rattle.std.specs.List.{AllByRecursion}
use Rattle.dj_edge.specs.trusted.Held.{File}
use Rattle.dj_names.specs.trusted.Library.{deterministic_library}
use Rattle.dj_pool.specs.trusted.Pool.{Constant}
use Rattle.dj_class.specs.trusted.ClassFile.{MemberInfo, ClassFile}
use Rattle.dj_model.specs.trusted.Program.{Program, Class, Method, Runs, has_flag}
use Rattle.dj_model.specs.Sound.{IsSoundBody, IsSoundCode, IsSound}
use Rattle.dj_early_rules.specs.trusted.Malformed.{IsBodiless, IsFaultyMethod}
use Rattle.dj_declarations.specs.trusted.Files.{is_bodiless}
use Rattle.dj_class_table.proofs.Rising.{members_joined}
use Rattle.dj_loader.proofs.Lists.{member_first, member_later, member_none, member_cases, member_prefix}
use Rattle.dj_program.specs.trusted.Codes.{CodeParts, code_in, IsMethodCode}
use Rattle.dj_program.specs.trusted.Programs.{AreSideBySide, IsMethodIn, IsClassIn, IsProgramIn}
use Rattle.dj_program.proofs.Once.{one_code_parts}
use Rattle.dj_rewritten.specs.Rewritable.{IsRewritable}
use Rattle.dj_sound.specs.Accepted.{IsAccepted}
use Rattle.dj_sound.proofs.Flags.{bit_from_test}
use Rattle.dj_sound.proofs.Origins.{rows_of, as_joined}
use Rattle.dj_sound.proofs.Methods.{file_of}
use Rattle.dj_sound.proofs.Whole.{accepted_is_sound}
use Rattle.dj_accepted.specs.Laws.{AreRewritable, AreKnownIn, AreNewsKnown}
use Rattle.dj_accepted.proofs.Linked.{good_parts, sound_makes_known}

-- ---- lists

-- what stands beside one of a list
beside : {A B : Type 0} (Stand : A → B → Type 0) (xs : List A) (ys : List B) (x : A) → AreSideBySide Stand xs ys → Contains xs x → (y : B) × Contains ys y × Stand x y
beside Stand [] ys x each m = absurd (member_none x m)
beside Stand (a ∷ xs) [] x each m = absurd each
beside Stand (a ∷ xs) (b ∷ ys) x each m = elim (member_cases a xs x m) [
  | inl same ↦ (b, member_first b ys, subst (λ y. Stand y b) same each.0)
  | inr later ↦ (let (y, there, stands) = beside Stand xs ys x each.1 later in (y, member_later b ys y there, stands))
]

from_members : {A : Type 0} (P : A → Type 0) (xs : List A) → ((x : A) → Contains xs x → P x) → AllByRecursion P xs
from_members P [] each = tt
from_members P (x ∷ xs) each = (each x (member_first x xs), from_members P xs (λ y m. each y (member_later x xs y m)))

-- ---- a method with code isn't native or abstract

bodiless_from : (info : MemberInfo) → is_bodiless info.flags ≡ true → IsBodiless info
bodiless_from info e = by (has_flag 8 info.flags) (has_flag 10 info.flags) refl refl e where
  by : (native abstract : Bool) → has_flag 8 info.flags ≡ native → has_flag 10 info.flags ≡ abstract → (native || abstract) ≡ true → IsBodiless info
  by true abstract n a e = inl (bit_from_test info.flags 8 n)
  by false true n a e = inr (bit_from_test info.flags 10 a)
  by false false n a e = absurd cc

has_body : (pool : List Constant) (info : MemberInfo) (parts : CodeParts) → (IsFaultyMethod pool info → ⊥) → IsMethodCode pool info parts → is_bodiless info.flags ≡ true → ⊥
has_body pool info parts whole code bodiless =
    whole (inr (inl (bodiless_from info bodiless, λ none. member_none code.own.body (subst (λ (bodies : List (List ℕ)). Contains bodies code.own.body) none code.own.own))))

body_is : (pool : List Constant) (info : MemberInfo) (m : Method) (parts : CodeParts) → (IsFaultyMethod pool info → ⊥) → IsMethodIn pool info m → IsMethodCode pool info parts → m.body ≡ Runs (code_in pool parts)
body_is pool info m parts whole is code =
    let body : m.body ≡ is.body = ap (λ (x : Method). x.body) is.is in
    elim is.is_body [
      | inl (bodiless, e) ↦ absurd (has_body pool info parts whole code bodiless)
      | inr (coded, other, other_code, e) ↦
          let same : other ≡ parts = one_code_parts pool info other parts whole other_code code in
          body ∙ (e ∙ ap (λ (p : CodeParts). Runs (code_in pool p)) same)
    ]

module _ (files : List File) (classes : List ClassFile) (program : Program) (accepted : IsAccepted files classes) (is : IsProgramIn deterministic_library classes program) where
  sound : IsSound program []
  sound = accepted_is_sound.deterministic files classes program accepted is

  of_program : (d : Class) → Contains is.classes d → Contains program d
  of_program d m =
      subst (λ (p : Program). Contains p d) (sym (as_joined deterministic_library files classes program accepted.good is))
      ((members_joined (is.classes ++ rows_of deterministic_library) d).1 (member_prefix is.classes (rows_of deterministic_library) d m))

  -- the code of a method of a file is that of a method of the program
  code_sound : (c : ClassFile) → Contains classes c → (info : MemberInfo) → Contains c.methods info → (parts : CodeParts) → IsMethodCode c.pool info parts
      → (m : Method) × IsSoundCode program [] m (code_in c.pool parts)
  code_sound c listed info own parts code =
      let (file, among, good) = file_of files classes c accepted.good listed in
      let (d, there, class_is) = beside IsClassIn classes is.classes c is.each listed in
      let (m, declared, method_is) = beside (IsMethodIn c.pool) c.methods class_is.methods info class_is.each own in
      let m_own : Contains d.methods m = subst (λ (x : Class). Contains x.methods m) (sym class_is.is) declared in
      let body = body_is c.pool info m parts (λ fault. good.whole (inl (info, own, fault))) method_is code in
      (m, subst (IsSoundBody program [] m) body ((sound.classes d (of_program d there)).bodies m m_own))

  rewritable : (c : ClassFile) → Contains classes c → IsRewritable c
  rewritable c listed =
      let (file, among, good) = file_of files classes c accepted.good listed in
      record {
        valid = good.file.valid;
        whole = good.whole;
        codes = λ info own parts code.
            let (m, is_sound) = code_sound c listed info own parts code in
            good_parts program c.pool m parts is_sound;
      }

  known : AreKnownIn classes program
  known = record {
    methods = λ c there m own code e. sound_makes_known program m code (subst (IsSoundBody program [] m) e ((sound.classes c there).bodies m own));
    files = λ c listed info own parts code.
        let (m, is_sound) = code_sound c listed info own parts code in
        sound_makes_known program m (code_in c.pool parts) is_sound;
  }

pub are_rewritable : AreRewritable
are_rewritable files classes program accepted is = from_members IsRewritable classes (rewritable files classes program accepted is)

pub are_news_known : AreNewsKnown
are_news_known files classes program accepted is = known files classes program accepted is
