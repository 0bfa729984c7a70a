-- Whether an entry has room among all that are needed is known when it is put.
use Rattle.std.proofs.Common.{◌≡◌, inl, inr, true, List, [], ◌++◌, sym, ◌∙◌, subst}
use Rattle.dj_asm_pool.specs.trusted.Entries.{Entry, each_once, index_of}
use Rattle.dj_asm_pool.specs.trusted.Room.{HasRoom}
use Rattle.dj_asm_pool.specs.Pooling.{EndsIn, all_kept, HasIndex, IsFull}
use Rattle.dj_asm_pool.specs.PoolNeeds.{HasPlace, LacksPlace, all_parts, PutsNeeds}
use Rattle.dj_asm_pool.proofs.Members.{each_in}
use Rattle.dj_asm_pool.proofs.PoolChains.{kept_append, all_index, all_full}
use Rattle.dj_asm_pool.proofs.PoolOnce.{has_index_in_once, past_in_once, whole}

-- what has room when it is put has room among all
pub room_in_whole : (xs ys : List Entry) (e : Entry) → HasPlace (all_kept [] xs) e → HasRoom (index_of (each_once (xs ++ ys)) e) e
room_in_whole xs ys e h = record {
  short = h.0;
  last = has_index_in_once (xs ++ ys) e (subst (λ l. HasIndex l e) (sym (kept_append [] xs ys)) (all_index (all_kept [] xs) ys e h.1));
}

-- what has none then has none among all
pub lacks_in_whole : (xs ys : List Entry) (e : Entry) → LacksPlace (all_kept [] xs) e → HasRoom (index_of (each_once (xs ++ ys)) e) e → ⊥
lacks_in_whole xs ys e (inl long) room = long room.short
lacks_in_whole xs ys e (inr past) room =
    let same : all_kept [] (xs ++ ys) ≡ all_kept [] xs = kept_append [] xs ys ∙ all_full (all_kept [] xs) ys past.1 in
    past_in_once (xs ++ ys) e (subst IsFull (sym same) past.1) (subst (λ l. EndsIn l e → ⊥) (sym same) past.0) room.last

-- where all have room the pool has each of them once
pub each_has_room : (entries kept : List Entry) → PutsNeeds [] entries kept true → kept ≡ each_once (all_parts entries)
each_has_room entries kept h = h.0 ∙ whole (all_parts entries) (λ e is. subst (λ l. HasIndex l e) h.0 (each_in (HasPlace kept) (all_parts entries) e h.1 is).1)
