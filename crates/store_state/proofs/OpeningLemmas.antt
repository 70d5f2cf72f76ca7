-- The store's own files are not the vault's.
use Rattle.std.proofs.Common.{Some, false, ◌≡◌, ◌≢◌, ◌≤◌, inr, Result, Err, ℕ, List, length, Bool, Option, None, if◌then◌else◌, codes, refl, ap, sym, ◌∙◌, subst}
use Rattle.gopass_base.specs.Text.{Text}
use Rattle.disk_model.specs.Files.{Files}
use Rattle.disk_model.specs.Answers.{Reads}
use Rattle.disk_model.specs.declared.disk.Got.{Got}
use Rattle.disk_model.specs.declared.disk.Got.TheVariants.{Absent, Bytes, Long}
use Rattle.pending_journal.specs.Service.{is_service, is_service_rest, without_service}
use Rattle.mount_table.specs.Mounts.{IsTable, root_of}
use Rattle.mount_table.specs.declared.mounts.Row.{Row}
use Rattle.store_state.specs.declared.seen.Seen.{Seen}
use Rattle.store_state.specs.Order.{AreRising, IsOrdered}
use Rattle.store_state.specs.Survey.{IsSurvey}
use Rattle.store_state.specs.State.{AreMounts, mounts_path, pending_path}
use Rattle.store_state.proofs.OrderLemmas.{seen_in_order}
use Rattle.path_rules.specs.RuleMap.{RuleMap}
use Rattle.store_state.specs.declared.fault.StoreFault.{StoreFault}
use Rattle.store_state.specs.declared.fault.StoreFault.TheVariants.{BadFile, Full, Disk, NoMemory}
use Rattle.store_state.specs.RuleFiles.{ReadsRules}
use Rattle.store_state.specs.Opening.{IsSurveyed, OpensStore}
use Rattle.store_state.proofs.KindLemmas.{rest_found}

pub mounts_plain : (root : Text) → is_service root (mounts_path root) ≡ false
mounts_plain root = ap is_service_rest (rest_found root (codes ".gopass-mounts"))

pub pending_plain : (root : Text) → is_service root (pending_path root) ≡ false
pending_plain root = ap is_service_rest (rest_found root (codes ".gopass-pending"))

pub mounts_shown : (root : Text) (files : Files) → without_service root files (mounts_path root) ≡ files (mounts_path root)
mounts_shown root files = ap (λ (t : Bool). if t then None else files (mounts_path root)) (mounts_plain root)

pub pending_shown : (root : Text) (files : Files) → without_service root files (pending_path root) ≡ files (pending_path root)
pending_shown root files = ap (λ (t : Bool). if t then None else files (pending_path root)) (pending_plain root)

pub read_none : (file : Option Text) (got : Got) → Reads file 0 got → got ≡ Absent → file ≡ None
read_none file Absent h e = h
read_none file (Bytes bytes) h e = absurd (cc)
read_none file Long h e = absurd (cc)

pub read_some : (file : Option Text) (got : Got) → Reads file 0 got → got ≢ Absent → file ≢ None
read_some file Absent h other = λ e. other refl
read_some file (Bytes bytes) h other = λ e. absurd (cc)
read_some file Long (bytes, is, more) other = λ e. absurd (cc)

-- ---- what was found, as it stands at the start

pub found_first : (start : Text) (files : Files) (root : Text) (mounts : List Row) → root ≡ start → AreMounts root (files (mounts_path root)) mounts → AreMounts start (files (mounts_path start)) mounts
found_first start files root mounts same is = subst (λ (r : Text). AreMounts r (files (mounts_path r)) mounts) same is

pub pending_first : (start : Text) (files : Files) (root : Text) (now : Files) → root ≡ start → now ≡ files → now (pending_path root) ≡ None → files (pending_path start) ≡ None
pending_first start files root now same rests none = (λ i. sym rests i (pending_path (sym same i))) ∙ none

pub survey_first : (start : Text) (files : Files) (root : Text) (now : Files) (mounts : List Row) (seen ordered : Seen) (counts : List ℕ) → root ≡ start → now ≡ files → IsSurvey root now mounts seen counts → IsOrdered seen ordered → IsSurvey start files mounts ordered counts
survey_first start files root now mounts seen ordered counts same rests is order =
    let here = subst (λ (f : Files). IsSurvey start f mounts seen counts) rests (subst (λ (r : Text). IsSurvey r now mounts seen counts) same is) in
    record { found = seen_in_order start files mounts (length mounts) seen ordered here.found order; as_many = here.as_many; each = here.each }

pub rising_of : (seen ordered : Seen) → IsOrdered seen ordered → AreRising ordered
rising_of seen ordered order = record { names = order.names.rising; rules = order.rules.rising; templates = order.templates.rising; strange = order.strange.rising; shadowed = order.shadowed.rising }

-- the mounts that were read are a table of this root directory
pub table_of : (root : Text) (file : Option Text) (mounts : List Row) → AreMounts root file mounts → IsTable (root_of mounts) mounts → IsTable root mounts
table_of root None mounts is table = subst (λ (r : Text). IsTable r mounts) (ap root_of is) table
table_of root (Some bytes) mounts is table = is.0

-- all of what lies below the mounts, as it stands at the start
pub surveyed : (start : Text) (files : Files) (given : Text) (one : Text) (ones : Files) (two : Text) (twos : Files) (mounts : List Row) (seen ordered : Seen) (counts : List ℕ)
    → given ≡ start → AreMounts given (files (mounts_path given)) mounts → one ≡ start → ones ≡ files → ones (pending_path one) ≡ None → two ≡ start → twos ≡ files → IsSurvey two twos mounts seen counts → IsOrdered seen ordered
    → IsSurveyed start files mounts ordered
surveyed start files given one ones two twos mounts seen ordered counts given_is are one_is ones_are none two_is twos_are is order = record {
  mounts_are = found_first start files given mounts given_is are;
  no_pending = pending_first start files one ones one_is ones_are none;
  counts = counts;
  survey = survey_first start files two twos mounts seen ordered counts two_is twos_are is order;
  rising = rising_of seen ordered order;
}

-- what was read of the rules, as it stands at the start
pub rules_first : (start : Text) (files : Files) (root : Text) (now : Files) (mounts : List Row) (folders : List Text) (r : Result RuleMap StoreFault) → root ≡ start → now ≡ files → ReadsRules root now mounts folders r → ReadsRules start files mounts folders r
rules_first start files root now mounts folders r same rests is = subst (λ (f : Files). ReadsRules start f mounts folders r) rests (subst (λ (t : Text). ReadsRules t now mounts folders r) same is)

-- a bad rule file refuses the opening
pub opens_fault : (root : Text) (files : Files) (mounts : List Row) (seen : Seen) (fault : StoreFault) → IsSurveyed root files mounts seen → length seen.rules.items ≤ 512 → length seen.names.items ≤ 8192
    → ReadsRules root files mounts seen.rules.items (Err fault) → OpensStore root files (Err fault)
opens_fault root files mounts seen (BadFile path line) all few_rules few (folder, has, bad) = inr (inr (mounts, seen, all, few_rules, few, folder, has, bad))
opens_fault root files mounts seen (Full kind) all few_rules few is = absurd is
opens_fault root files mounts seen Disk all few_rules few is = tt
opens_fault root files mounts seen NoMemory all few_rules few is = tt
