use Rattle.std.proofs.Common.{◌≡◌, ◌≤◌, vec_len, drop, take, map, string_bytes}
use Rattle.command_words.specs.Forms.{form_of}
use Rattle.command_words.specs.Invocations.{only}
use Rattle.command_words.proofs.Sorting.{IsRead}
use Rattle.command_words.proofs.reading.sort.Given as goal

abbrev pub invariant-loop-index : goal.invariant-loop-index
invariant-loop-index l = record {
  read : IsRead l.form (map string_bytes l.words) (map string_bytes (take l.index l.words)) (map string_bytes (drop l.index l.words)) l.flags (map string_bytes l.plain.items) l.is_behind;
  most : vec_len l.plain ≤ l.form.most;
  form : l.form ≡ form_of l.fn.verb;
  taken : only l.form.flags l.flags ≡ l.flags;
}
