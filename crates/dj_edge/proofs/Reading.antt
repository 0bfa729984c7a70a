-- Reading one folder, entry by entry.
use Rattle.std.proofs.Common.{◌≡◌, ℕ, ◌+◌, ◌<◌, ◌≤◌, List, [], ◌∷◌, ◌++◌, length, length-append, map, filter, Option, Some, None, IfSome, option_map, Ok, Err, refl, sym, ap, ◌∙◌, subst, append_assoc, append-nil, arith}
use Rattle.std.proofs.lemmas.List.Elements.{filter-append}
use Rattle.dj_edge.specs.declared.files.ListError.{ListError}
use Rattle.dj_edge.specs.declared.files.ListError.TheVariants as list_errors
use Rattle.dj_edge.specs.declared.walk.FolderEntry.{FolderEntry}
use Rattle.dj_edge.specs.declared.walk.FolderEntries.{FolderEntries}
use Rattle.dj_edge.specs.Walks.{Place, place_of, Tree, is_kept, AreEntries, IsOpened, IsNextEntry, IsFolderRead}

abbrev behind : List Place → Option (List Place) → Option (List Place)
behind seen left = option_map (λ (rest : List Place). seen ++ rest) left

-- what was read of the folder so far
pub record ReadSoFar (tree : Option Tree) (folder : List ℕ) (left : Option (List Place)) (kept : List FolderEntry) (count : ℕ) : Type 0 where
  pub seen : List Place
  pub reported : IfSome tree (λ t. t folder ≡ option_map (λ (rest : List Place). seen ++ rest) left)
  pub kept_is : map place_of kept ≡ filter is_kept seen
  pub count_is : length seen ≡ count

behind_none : (left : Option (List Place)) → left ≡ behind [] left
behind_none None = refl
behind_none (Some places) = refl

opened : (tree : Option Tree) (folder : List ℕ) (left : Option (List Place)) → IfSome tree (λ t. t folder ≡ left) → IfSome tree (λ t. t folder ≡ behind [] left)
opened None folder left reported = tt
opened (Some t) folder left reported = reported ∙ behind_none left

pub read_none : (tree : Option Tree) (folder : List ℕ) (left : Option (List Place)) → IfSome tree (λ t. t folder ≡ left) → ReadSoFar tree folder left [] 0
read_none tree folder left reported = record {
  seen = [];
  reported = opened tree folder left reported;
  kept_is = refl;
  count_is = refl;
}

behind_more : (seen : List Place) (place : Place) (new : Option (List Place)) → behind seen (option_map (λ (places : List Place). place ∷ places) new) ≡ behind (seen ++ place ∷ []) new
behind_more seen place None = refl
behind_more seen place (Some rest) = ap Some (sym (append_assoc seen (place ∷ []) rest))

reported_more : (tree : Option Tree) (folder : List ℕ) (old new : Option (List Place)) (seen : List Place) (place : Place) → IfSome tree (λ t. t folder ≡ behind seen old)
    → IfSome tree (λ t. old ≡ option_map (λ (places : List Place). place ∷ places) new) → IfSome tree (λ t. t folder ≡ behind (seen ++ place ∷ []) new)
reported_more None folder old new seen place reported next = tt
reported_more (Some t) folder old new seen place reported next = reported ∙ ap (behind seen) next ∙ behind_more seen place new

-- one more entry
pub read_more : (tree : Option Tree) (folder : List ℕ) (old new : Option (List Place)) (kept now : List FolderEntry) (count : ℕ) (entry : FolderEntry) → ReadSoFar tree folder old kept count
    → IfSome tree (λ t. old ≡ option_map (λ (places : List Place). place_of entry ∷ places) new) → map place_of now ≡ map place_of kept ++ filter is_kept (place_of entry ∷ []) → ReadSoFar tree folder new now (count + 1)
read_more tree folder old new kept now count entry far next adds = record {
  seen = far.seen ++ place_of entry ∷ [];
  reported = reported_more tree folder old new far.seen (place_of entry) far.reported next;
  kept_is = adds ∙ ap (λ (l : List Place). l ++ filter is_kept (place_of entry ∷ [])) far.kept_is ∙ sym (filter-append is_kept far.seen (place_of entry ∷ []));
  count_is = omega (arith, far.count_is, length-append far.seen (place_of entry ∷ []));
}

reported_all : (tree : Option Tree) (folder : List ℕ) (left : Option (List Place)) (seen : List Place) → IfSome tree (λ t. t folder ≡ behind seen left) → IfSome tree (λ t. left ≡ Some []) → IfSome tree (λ t. t folder ≡ Some seen)
reported_all None folder left seen reported end = tt
reported_all (Some t) folder left seen reported end = reported ∙ ap (behind seen) end ∙ ap Some (append-nil seen)

-- nothing is left
pub read_all : (tree : Option Tree) (folder : List ℕ) (left : Option (List Place)) (most : ℕ) (entries : FolderEntries) → ReadSoFar tree folder left entries.kept.items entries.count
    → IfSome tree (λ t. left ≡ Some []) → entries.count ≤ most → AreEntries tree folder most entries
read_all tree folder left most entries far end few = record {
  places = far.seen;
  reported = reported_all tree folder left far.seen far.reported end;
  kept = far.kept_is;
  count = sym far.count_is;
  few = few;
}

-- ---- a folder that can't be read

abbrev Unread : Option Tree → List ℕ → ℕ → Type 0
Unread tree folder most = IfSome tree (λ t. (places : List Place) → t folder ≡ Some places → most < length places)

pub unopened : (tree : Option Tree) (folder : List ℕ) (most : ℕ) → IfSome tree (λ t. t folder ≡ None) → IfSome tree (λ t. (places : List Place) → t folder ≡ Some places → most < length places)
unopened None folder most reported = tt
unopened (Some t) folder most reported = λ places is. absurd cc

broken_off : (tree : Option Tree) (folder : List ℕ) (left : Option (List Place)) (seen : List Place) (most : ℕ) → IfSome tree (λ t. t folder ≡ behind seen left) → IfSome tree (λ t. left ≡ None) → Unread tree folder most
broken_off None folder left seen most reported end = tt
broken_off (Some t) folder left seen most reported end = unopened (Some t) folder most (reported ∙ ap (behind seen) end)

-- an entry couldn't be read
pub unread : (tree : Option Tree) (folder : List ℕ) (left : Option (List Place)) (kept : List FolderEntry) (count most : ℕ) → ReadSoFar tree folder left kept count → IfSome tree (λ t. left ≡ None)
    → IfSome tree (λ t. (places : List Place) → t folder ≡ Some places → most < length places)
unread tree folder left kept count most far end = broken_off tree folder left far.seen most far.reported end

too_many : (t : Tree) (folder : List ℕ) (left : Option (List Place)) (seen : List Place) (most : ℕ) → t folder ≡ behind seen left → most < length seen → (places : List Place) → t folder ≡ Some places → most < length places
too_many t folder None seen most reported past places is = absurd cc
too_many t folder (Some rest) seen most reported past places is =
    let whole : seen ++ rest ≡ places = cc in
    omega (arith, ap length whole, length-append seen rest)

past_most : (tree : Option Tree) (folder : List ℕ) (left : Option (List Place)) (seen : List Place) (most : ℕ) → IfSome tree (λ t. t folder ≡ behind seen left) → most < length seen → Unread tree folder most
past_most None folder left seen most reported past = tt
past_most (Some t) folder left seen most reported past = too_many t folder left seen most reported past

-- more entries were read than there may be
pub unread_past : (tree : Option Tree) (folder : List ℕ) (left : Option (List Place)) (kept : List FolderEntry) (count most : ℕ) → ReadSoFar tree folder left kept count → most < count
    → IfSome tree (λ t. (places : List Place) → t folder ≡ Some places → most < length places)
unread_past tree folder left kept count most far past = past_most tree folder left far.seen most far.reported (omega (arith, far.count_is))

-- ---- what the calls report, at equal values

pub next_as : (a b : Option Tree) (old new : Option (List Place)) (met : Option FolderEntry) (entry : FolderEntry) → a ≡ b → met ≡ Some entry → IsNextEntry a old new (Ok met)
    → IfSome b (λ t. old ≡ option_map (λ (places : List Place). place_of entry ∷ places) new)
next_as a b old new met entry same is next =
    subst (λ (o : Option Tree). IsNextEntry o old new (Ok (Some entry))) same (subst (λ (m : Option FolderEntry). IsNextEntry a old new (Ok m)) is next)

pub end_as : (a b : Option Tree) (old new : Option (List Place)) (met : Option FolderEntry) → a ≡ b → met ≡ None → IsNextEntry a old new (Ok met) → IfSome b (λ t. old ≡ Some [])
end_as a b old new met same is next =
    subst (λ (o : Option Tree). IsNextEntry o old new (Ok None)) same (subst (λ (m : Option FolderEntry). IsNextEntry a old new (Ok m)) is next)

pub unread_error : (a b : Option Tree) (folder : List ℕ) (old new : Option (List Place)) (kept : List FolderEntry) (count most : ℕ) (error : ListError) → a ≡ b → ReadSoFar b folder old kept count
    → IsNextEntry a old new (Err error) → IsFolderRead b folder most (Err error)
unread_error a b folder old new kept count most list_errors.Failed same far next =
    unread b folder old kept count most far (subst (λ (o : Option Tree). IfSome o (λ t. old ≡ None)) same next)
unread_error a b folder old new kept count most list_errors.Memory same far next = tt

pub unopened_error : (T : Type 0) (tree : Option Tree) (left : Option (List Place)) (folder : List ℕ) (most : ℕ) (error : ListError) → IsOpened {T = T} tree left folder (Err error) → IsFolderRead tree folder most (Err error)
unopened_error T tree left folder most list_errors.Failed reported = unopened tree folder most reported
unopened_error T tree left folder most list_errors.Memory reported = tt

pub memory_error : (tree : Option Tree) (folder : List ℕ) (most : ℕ) (error : ListError) → error ≡ list_errors.Memory → IsFolderRead tree folder most (Err error)
memory_error tree folder most list_errors.Failed is = absurd cc
memory_error tree folder most list_errors.Memory is = tt
