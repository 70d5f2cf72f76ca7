-- A change that takes the files of entries one after the other refuses none of them.
use Rattle.std.proofs.Common.{◌≡◌, inl, inr, ◌+◌, ◌<◌, ◌≤◌, false, List, [], ◌∷◌, ◌++◌, length, map, Option, Some, None, Ok, Err, refl, ap, sym, ◌∙◌, subst, arith, length-append}
use Rattle.std.specs.Prelude.{Result, IfErr, Contains}
use Rattle.std.proofs.lemmas.Bool.{false≢true}
use Rattle.std.proofs.lemmas.List.Elements.{Contains-append_cases}
use Rattle.gopass_base.specs.Text.{Text}
use Rattle.gopass_base.proofs.ListLemmas.{here, later, first_or}
use Rattle.mount_table.specs.Mounts.{IsTable}
use Rattle.mount_table.specs.declared.mounts.Row.{Row}
use Rattle.pending_journal.specs.Journal.{JournalPlan, paths_of as plan_paths}
use Rattle.pending_journal.specs.Change.{MayAdd, contents_of, plan_in, puts_in}
use Rattle.pending_journal.specs.Service.{is_service}
use Rattle.pending_journal.specs.declared.put.Put.{Put}
use Rattle.pending_journal.specs.declared.change.Change.{Change}
use Rattle.pending_journal.specs.declared.change.ChangeAddFault.{ChangeAddFault}
use Rattle.pending_journal.specs.declared.change.ChangeAddFault.TheVariants.{TwoForOne, Service, Long, NoMemory}
use Rattle.store_core.specs.declared.change_of.File.{File}
use Rattle.store_core.specs.Applying.{AreGood, IsChangeOf, IsFileOf, IsGood, Places, drop_by, drops_of, places_of, put_by, puts_of}
use Rattle.store_core.specs.Edit.{AreOfOne, Differ, Entry, IsApartFrom, OfSecret, OfRule, OfTemplate, file_of_entry, paths_in, place}
use Rattle.store_core.specs.Entries.{text_in}
use Rattle.store_core.proofs.EditLemmas.{paths_of, paths_same, place_apart, plain_place}

-- ---- what a change that may take a file does not answer

pub only_memory : (root path : Text) (plan : JournalPlan) (r : Result (Unit {0}) ChangeAddFault) → MayAdd root plan path {T = Unit {0}} (Ok tt) → MayAdd root plan path r → IfErr r (λ fault. fault ≡ NoMemory)
only_memory root path plan (Ok done) may is = tt
only_memory root path plan (Err TwoForOne) may refused = absurd (may.0 refused)
only_memory root path plan (Err Service) may refused = absurd (false≢true (sym may.1 ∙ refused.1))
only_memory root path plan (Err Long) may refused = absurd (omega (arith, may.2, refused.2))
only_memory root path plan (Err NoMemory) may refused = refl

-- ---- the paths of a change

firsts : List (Text × Text) → List Text
firsts [] = []
firsts (one ∷ list) = one.0 ∷ firsts list

put_paths : (puts : List Put) → map (λ (put : Put). put.path) puts ≡ firsts (contents_of puts)
unfolding firsts
put_paths [] = refl
put_paths (put ∷ puts) = ap (λ l. put.path ∷ l) (put_paths puts)

put_among : (places : Places) (path : Text) → Contains (firsts (puts_of places)) path → Contains (paths_of places) path
unfolding firsts
put_among [] path has = has
put_among ((at, Some bytes) ∷ places) path has = elim (first_or at (firsts (puts_of places)) path has) [
  | inl same ↦ subst (Contains (at ∷ paths_of places)) same (here at (paths_of places))
  | inr more ↦ later at (paths_of places) path (put_among places path more)
]
put_among ((at, None) ∷ places) path has = later at (paths_of places) path (put_among places path has)

drop_among : (places : Places) (path : Text) → Contains (drops_of places) path → Contains (paths_of places) path
drop_among [] path has = has
drop_among ((at, Some bytes) ∷ places) path has = later at (paths_of places) path (drop_among places path has)
drop_among ((at, None) ∷ places) path has = elim (first_or at (drops_of places) path has) [
  | inl same ↦ subst (Contains (at ∷ paths_of places)) same (here at (paths_of places))
  | inr more ↦ later at (paths_of places) path (drop_among places path more)
]

count_both : (places : Places) → length (firsts (puts_of places)) + length (drops_of places) ≡ length places
unfolding firsts
count_both [] = omega arith
count_both ((at, Some bytes) ∷ places) = (let more = count_both places in omega (arith, more))
count_both ((at, None) ∷ places) = (let more = count_both places in omega (arith, more))

count_places : (mounts : List Row) (entries : List Entry) → length (places_of mounts entries) ≡ length entries
count_places mounts [] = refl
count_places mounts (entry ∷ entries) = (let more = count_places mounts entries in omega (arith, more))

-- ---- entries that are apart

same_back : (a b : Entry) → AreOfOne a b → AreOfOne b a
same_back (OfSecret a file) (OfSecret b other) is = sym is
same_back (OfSecret a file) (OfRule b ids) is = is
same_back (OfSecret a file) (OfTemplate b other) is = is
same_back (OfRule a ids) (OfSecret b file) is = is
same_back (OfRule a ids) (OfRule b other) is = sym is
same_back (OfRule a ids) (OfTemplate b file) is = is
same_back (OfTemplate a file) (OfSecret b other) is = is
same_back (OfTemplate a file) (OfRule b ids) is = is
same_back (OfTemplate a file) (OfTemplate b other) is = sym is

apart_at : (one entry : Entry) (before rest : List Entry) → IsApartFrom one (before ++ entry ∷ rest) → ¬ AreOfOne one entry
apart_at one entry [] rest apart = apart.0
apart_at one entry (other ∷ before) rest apart = apart_at one entry before rest apart.1

pub apart_back : (entry : Entry) (before rest : List Entry) → Differ (before ++ entry ∷ rest) → IsApartFrom entry before
apart_back entry [] rest differ = tt
apart_back entry (one ∷ before) rest differ = (λ is. apart_at one entry before rest differ.0 (same_back entry one is), apart_back entry before rest differ.1)

-- ---- one file more

-- a path that is none of these entries' and none of the vault's own
pub may_add_at : (root : Text) (mounts : List Row) (before : List Entry) (change : Change) (path : Text) → IsChangeOf root mounts before change → ¬ Contains (paths_in mounts before) path → is_service root path ≡ false → length before < 16400
    → MayAdd change.root (plan_in change) path {T = Unit {0}} (Ok tt)
may_add_at root mounts before change path of out plain few = (
  λ has. out (subst (λ (l : List Text). Contains l path) (paths_same mounts before) (elim (Contains-append_cases (firsts (puts_of (places_of mounts before))) (drops_of (places_of mounts before)) path (subst (λ (l : List Text). Contains l path) paths has)) [
    | inl put ↦ put_among (places_of mounts before) path put
    | inr drop ↦ drop_among (places_of mounts before) path drop
  ])),
  ap (λ (r : Text). is_service r path) of.root_is ∙ plain,
  omega (arith, few, ap length paths, length-append (firsts (puts_of (places_of mounts before))) (drops_of (places_of mounts before)), count_both (places_of mounts before), count_places mounts before),
)
  where
    paths : plan_paths (plan_in change) ≡ firsts (puts_of (places_of mounts before)) ++ drops_of (places_of mounts before)
    paths = λ i. (put_paths change.puts.items ∙ ap firsts of.puts) i ++ of.drops i

pub may_add : (root : Text) (mounts : List Row) (before rest : List Entry) (entry : Entry) (change : Change) (path : Text) → IsTable root mounts → IsChangeOf root mounts before change → IsGood entry → path ≡ place mounts entry
    → Differ (before ++ entry ∷ rest) → length (before ++ entry ∷ rest) ≤ 16400 → MayAdd change.root (plan_in change) path {T = Unit {0}} (Ok tt)
may_add root mounts before rest entry change path table of good is differ few =
    may_add_at root mounts before change path of
    (λ has. place_apart root mounts entry before table good of.good (apart_back entry before rest differ) (subst (Contains (paths_in mounts before)) is has))
    (ap (is_service root) is ∙ plain_place root mounts entry table good) (omega (arith, few, length-append before (entry ∷ rest)))

places_more : (mounts : List Row) (before : List Entry) (entry : Entry) → places_of mounts (before ++ entry ∷ []) ≡ places_of mounts before ++ (place mounts entry, file_of_entry entry) ∷ []
places_more mounts [] entry = refl
places_more mounts (one ∷ before) entry = ap (λ l. (place mounts one, file_of_entry one) ∷ l) (places_more mounts before entry)

pub puts_more : (places : Places) (path : Text) (file : Option Text) → puts_of (places ++ (path, file) ∷ []) ≡ puts_of places ++ put_by path file
puts_more [] path (Some bytes) = refl
puts_more [] path None = refl
puts_more ((at, Some bytes) ∷ places) path file = ap (λ l. (at, bytes) ∷ l) (puts_more places path file)
puts_more ((at, None) ∷ places) path file = puts_more places path file

pub drops_more : (places : Places) (path : Text) (file : Option Text) → drops_of (places ++ (path, file) ∷ []) ≡ drops_of places ++ drop_by path file
drops_more [] path (Some bytes) = refl
drops_more [] path None = refl
drops_more ((at, Some bytes) ∷ places) path file = drops_more places path file
drops_more ((at, None) ∷ places) path file = ap (λ l. at ∷ l) (drops_more places path file)

good_more : (before : List Entry) (entry : Entry) → AreGood before → IsGood entry → AreGood (before ++ entry ∷ [])
good_more [] entry all good = (good, tt)
good_more (one ∷ before) entry all good = (all.0, good_more before entry all.1 good)

pub has_more : (root : Text) (mounts : List Row) (before now : List Entry) (entry : Entry) (old new : Change) (file : File) → now ≡ before ++ entry ∷ [] → IsChangeOf root mounts before old → IsGood entry → IsFileOf mounts entry file
    → puts_in new ≡ puts_in old ++ put_by file.path (text_in file.bytes) → new.drops.items ≡ old.drops.items ++ drop_by file.path (text_in file.bytes) → new.root ≡ old.root → IsChangeOf root mounts now new
has_more root mounts before now entry old new file is of good (path, text) puts drops same = subst (λ (es : List Entry). IsChangeOf root mounts es new) (sym is) (record {
  root_is = same ∙ of.root_is;
  good = good_more before entry of.good good;
  puts = puts ∙ ((λ i. of.puts i ++ put_by (path i) (text i)) ∙ sym (ap puts_of (places_more mounts before entry) ∙ puts_more (places_of mounts before) (place mounts entry) (file_of_entry entry)));
  drops = drops ∙ ((λ i. of.drops i ++ drop_by (path i) (text i)) ∙ sym (ap drops_of (places_more mounts before entry) ∙ drops_more (places_of mounts before) (place mounts entry) (file_of_entry entry)));
})
