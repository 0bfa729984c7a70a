-- Options that make a line one of no job: one that no command has, one that stands twice, and one whose value is no numeral.
use Rattle.std.proofs.Common.{◌≡◌, ◌∙◌, ◌&&◌, ◌++◌, ℕ, Bool, true, false, List, [], ◌∷◌, Option, Some, None, refl, ap, cond, codes}
use Rattle.std.specs.Prelude.{filter}
use Rattle.std.specs.List.{list_all, list_any}
use Rattle.std.proofs.lemmas.List.Elements.{filter-append}
use Rattle.dj_cursor.specs.trusted.Options.{◌>>=◌}
use Rattle.dj_names.specs.declared.run.Thresholds.{Thresholds}
use Rattle.dj_command_line.specs.trusted.Words.{Word, Given, Setting, is_word, is_numeral, number_between, number_given, number_of, has_only, given_thresholds, thresholds_of, steps_of, line_job, alloc_setting, invoke_setting, jump_setting, throw_setting, steps_setting}
use Rattle.dj_command_line.proofs.Rules.{Known, is_alloc, is_invoke, is_jump, is_throw, is_steps, Unknown}
use Rattle.dj_command_line.proofs.NoJobs.{no_line}

abbrev pub threshold_settings : List Setting
threshold_settings = alloc_setting ∷ invoke_setting ∷ jump_setting ∷ throw_setting ∷ []

pub and_false : (b : Bool) → (b && false) ≡ false
and_false true = refl
and_false false = refl

not_all : {X : Type 0} (p : X → Bool) (xs : List X) (y : X) (ys : List X) → p y ≡ false → list_all p (xs ++ y ∷ ys) ≡ false
not_all p [] y ys fails = rw fails refl
not_all p (x ∷ xs) y ys fails = ap (λ b. p x && b) (not_all p xs y ys fails) ∙ and_false (p x)

abbrev fits : List Setting → Given → Bool
fits settings given = list_any (λ s. is_word given.0 s.name) settings

foreign_to_verify : (xs : List Given) (o : Given) (ys : List Given) → fits threshold_settings o ≡ false → thresholds_of (xs ++ o ∷ ys) ≡ None
foreign_to_verify xs o ys fails =
    ap (λ b. cond b (given_thresholds (xs ++ o ∷ ys)) None) (not_all (fits threshold_settings) xs o ys fails)

foreign_to_raw : (xs : List Given) (o : Given) (ys : List Given) → fits (steps_setting ∷ []) o ≡ false → steps_of (xs ++ o ∷ ys) ≡ None
foreign_to_raw xs o ys fails =
    ap (λ b. cond b (number_of steps_setting (xs ++ o ∷ ys)) None) (not_all (fits (steps_setting ∷ [])) xs o ys fails)

no_job : (plain : List Word) (xs : List Given) (o : Given) (ys : List Given) → thresholds_of (xs ++ o ∷ ys) ≡ None → steps_of (xs ++ o ∷ ys) ≡ None
    → line_job plain (xs ++ o ∷ ys) ≡ None
no_job plain [] o ys thresholds steps = no_line plain o ys thresholds steps
no_job plain (x ∷ xs) o ys thresholds steps = no_line plain x (xs ++ o ∷ ys) thresholds steps

-- ---- an option that no command has

pub unknown_option : (plain : List Word) (xs : List Given) (name value : Word) (ys : List Given) → Unknown name → line_job plain (xs ++ (name, value) ∷ ys) ≡ None
unknown_option plain xs name value ys fails =
    no_job plain xs (name, value) ys
    (foreign_to_verify xs (name, value) ys (rw (fails.0, fails.1, fails.2, fails.3) refl))
    (foreign_to_raw xs (name, value) ys (rw fails.4 refl))

-- ---- an option without a number

none_after : (o : Option ℕ) (f : ℕ → Option Thresholds) → ((n : ℕ) → f n ≡ None) → (o >>= f) ≡ None
none_after None f none = refl
none_after (Some n) f none = none n

either_none : {X : Type 0} (b : Bool) (x : Option X) → x ≡ None → cond b x None ≡ None
either_none true x none = none
either_none false x none = refl

abbrev NoNumber : Setting → List Given → Type 0
NoNumber s options = number_of s options ≡ None

no_alloc : (options : List Given) → NoNumber alloc_setting options → given_thresholds options ≡ None
no_alloc options none = rw none refl

no_invoke : (options : List Given) → NoNumber invoke_setting options → given_thresholds options ≡ None
no_invoke options none = none_after (number_of alloc_setting options) _ (λ a. rw none refl)

no_jump : (options : List Given) → NoNumber jump_setting options → given_thresholds options ≡ None
no_jump options none = none_after (number_of alloc_setting options) _ (λ a. none_after (number_of invoke_setting options) _ (λ i. rw none refl))

no_throw : (options : List Given) → NoNumber throw_setting options → given_thresholds options ≡ None
no_throw options none =
    none_after (number_of alloc_setting options) _ (λ a. none_after (number_of invoke_setting options) _ (λ i.
    none_after (number_of jump_setting options) _ (λ j. rw none refl)))

-- an option of the setting's name has no number, so there is no job
without_number : (plain : List Word) (xs : List Given) (name value : Word) (ys : List Given) → Known name
    → ((s : Setting) → s.name ≡ name → NoNumber s (xs ++ (name, value) ∷ ys)) → line_job plain (xs ++ (name, value) ∷ ys) ≡ None
without_number plain xs _ value ys is_alloc none =
    no_job plain xs (codes "alloc", value) ys (either_none (has_only threshold_settings (xs ++ (codes "alloc", value) ∷ ys)) (given_thresholds (xs ++ (codes "alloc", value) ∷ ys)) (no_alloc (xs ++ (codes "alloc", value) ∷ ys) (none alloc_setting refl))) (foreign_to_raw xs (codes "alloc", value) ys refl)
without_number plain xs _ value ys is_invoke none =
    no_job plain xs (codes "invoke", value) ys (either_none (has_only threshold_settings (xs ++ (codes "invoke", value) ∷ ys)) (given_thresholds (xs ++ (codes "invoke", value) ∷ ys)) (no_invoke (xs ++ (codes "invoke", value) ∷ ys) (none invoke_setting refl))) (foreign_to_raw xs (codes "invoke", value) ys refl)
without_number plain xs _ value ys is_jump none =
    no_job plain xs (codes "jump", value) ys (either_none (has_only threshold_settings (xs ++ (codes "jump", value) ∷ ys)) (given_thresholds (xs ++ (codes "jump", value) ∷ ys)) (no_jump (xs ++ (codes "jump", value) ∷ ys) (none jump_setting refl))) (foreign_to_raw xs (codes "jump", value) ys refl)
without_number plain xs _ value ys is_throw none =
    no_job plain xs (codes "throw", value) ys (either_none (has_only threshold_settings (xs ++ (codes "throw", value) ∷ ys)) (given_thresholds (xs ++ (codes "throw", value) ∷ ys)) (no_throw (xs ++ (codes "throw", value) ∷ ys) (none throw_setting refl))) (foreign_to_raw xs (codes "throw", value) ys refl)
without_number plain xs _ value ys is_steps none =
    no_job plain xs (codes "steps", value) ys (foreign_to_verify xs (codes "steps", value) ys refl) (either_none (has_only (steps_setting ∷ []) (xs ++ (codes "steps", value) ∷ ys)) (number_of steps_setting (xs ++ (codes "steps", value) ∷ ys)) (none steps_setting refl))

-- the options of a name
abbrev pub named_so : Word → List Given → List Given
named_so name options = filter (λ given. is_word given.0 name) options

pub named_at : (name : Word) (xs : List Given) (o : Given) (ys : List Given) → is_word o.0 name ≡ true → named_so name (xs ++ o ∷ ys) ≡ named_so name xs ++ o ∷ named_so name ys
named_at name xs o ys same = filter-append (λ (given : Given). is_word given.0 name) xs (o ∷ ys) ∙ ap (λ (l : List Given). named_so name xs ++ l) (rw same refl)

wrong_value : (s : Setting) (xs : List Given) (o : Given) (ys : List Given) → number_between 0 s.most o.1 ≡ None → number_given s (xs ++ o ∷ ys) ≡ None
wrong_value s [] o [] none = none
wrong_value s [] o (y ∷ ys) none = refl
wrong_value s (x ∷ []) o ys none = refl
wrong_value s (x ∷ x2 ∷ xs) o ys none = refl

twice : (s : Setting) (x : Given) (xs : List Given) (o : Given) (ys : List Given) → number_given s ((x ∷ xs) ++ o ∷ ys) ≡ None
twice s x [] o ys = refl
twice s x (x2 ∷ xs) o ys = refl

pub itself : (name : Word) → Known name → is_word name name ≡ true
itself _ is_alloc = refl
itself _ is_invoke = refl
itself _ is_jump = refl
itself _ is_throw = refl
itself _ is_steps = refl

pub no_numeral : (plain : List Word) (xs : List Given) (name value : Word) (ys : List Given) → Known name → is_numeral value ≡ false → line_job plain (xs ++ (name, value) ∷ ys) ≡ None
no_numeral plain xs name value ys known fails =
    without_number plain xs name value ys known (λ s same.
    let here : is_word name s.name ≡ true = ap (is_word name) same ∙ itself name known in
    ap (number_given s) (named_at s.name xs (name, value) ys here) ∙ wrong_value s (named_so s.name xs) (name, value) (named_so s.name ys) (rw fails refl))

pub given_twice : (plain : List Word) (xs : List Given) (name value before : Word) (ys : List Given) → Known name → named_so name xs ≡ (name, before) ∷ []
    → line_job plain (xs ++ (name, value) ∷ ys) ≡ None
given_twice plain xs name value before ys known has =
    without_number plain xs name value ys known (λ s same.
    let here : is_word name s.name ≡ true = ap (is_word name) same ∙ itself name known in
    ap (number_given s) (named_at s.name xs (name, value) ys here ∙ ap (λ (l : List Given). l ++ (name, value) ∷ named_so s.name ys) (ap (λ (n : Word). named_so n xs) same ∙ has))
    ∙ twice s (name, before) [] (name, value) (named_so s.name ys))
