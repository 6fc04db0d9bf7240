-- The names that most proofs of the crate cite, passed on from one place. It declares nothing.
pub use Rattle.std.proofs.Common.{ℕ, ◌≡◌, cond, eqb, List, drop, get_or, sym, ap, ◌∙◌, arith, ◌+◌, [], ◌∷◌, ◌++◌, length, map, codes, refl, subst, append-nil, length-append, Ok, Err, Result, zero, suc, ◌-◌, ◌*◌, ◌^◌, ◌<◌, ◌≤◌, ◌⊎◌, Bool, true, false, inl, inr, Option, Some, None, MatchOption, IfSome, IfNone, ◌/◌, ◌%◌, rules, take, ◌&&◌, ◌≢◌, not, replicate, Fits, w8, append_assoc, OnErr, ◌||◌, ltb, slice_index_or, vec_len}
pub use Rattle.std.proofs.lemmas.Bool.{false≢true, eqb-true, and_parts, agree_below, agree_below_at, not-false, not-true, cases_lt, eq-eqb, or_parts}
pub use Rattle.std.proofs.lemmas.Bool.Decides.{eqb_tells, Decides-eqb}
pub use Rattle.std.proofs.lemmas.List.{take-append-drop, length-take-le, get_or_append_left, get_or-take, take_more, length-take, length-drop, length-map, take-take, map_push, replicate_more, take-replicate, length-replicate, drop_at, map-append, append_cancel_left, get_or_default, take_all, nil_from_length}
pub use Rattle.std.specs.Char.{is_ascii_digit, digit_value}
pub use Rattle.std.specs.Fmt.{decimal}
pub use Rattle.std.specs.List.{onto_first, prefix_len, sum_by, AllByRecursion}
pub use Rattle.std.specs.Str.{all_ascii_digits}
pub use Rattle.std.specs.Str.Parse.{digits_value, AllDigits, digits_value_after}
pub use Rattle.ks_history.specs.declared.Op.TheVariants.{Get, Put, Del, Add, Swap, Part, Move}
pub use Rattle.ks_history.specs.declared.Reply.{Reply}
pub use Rattle.ks_history.specs.declared.Reply.TheVariants.{Nothing, Value, Full, Listed, Kept}
pub use Rattle.ks_lines.specs.declared.Line.{Line}
pub use Rattle.ks_lines.specs.declared.Line.TheVariants.{Call, Scan}
pub use Rattle.ks_keysets.specs.declared.Pair.{Pair}
pub use Rattle.ks_lines.specs.declared.Said.{Said}
pub use Rattle.ks_lines.specs.declared.Scanned.{Scanned}
pub use Rattle.ks_lines.specs.declared.Scanned.TheVariants.{Whole, Until}
pub use Rattle.ks_script.specs.Ahead.{Lacks}
pub use Rattle.ks_script.specs.Checked.{IsRunOf, SpellsChecked, AreChecked, CheckedOf, IsReply, IsAnswered, IsPair, IsPart, IsStop, IsSaid, AscendFrom}
pub use Rattle.ks_script.specs.CheckedTexts.{CheckedIn, FirstBadOfChecked}
pub use Rattle.ks_script.specs.Left.{Stops, HasBegun, NoVersion, HasLine, IsLineWithin}
pub use Rattle.ks_script.specs.Lined.{EndsLine, Lined, NotLined}
pub use Rattle.ks_script.specs.Lines.{lines_of, FirstBad, Begins, text_of, ended}
pub use Rattle.ks_script.specs.Numeral.{NoDigit}
pub use Rattle.ks_script.specs.Reading.{Answers, Gives, Refuses, Says}
pub use Rattle.ks_script.specs.Reads.{Lines, NotFirst, Reads, RefusedBehind, NoneFirst, BeginsWith}
pub use Rattle.ks_script.specs.Run.{pair_line, Run, run_lines, reply_word, reply_line, pair_words, part_line, stop_line, said_lines, callers_from, map_lines, run_text}
pub use Rattle.ks_script.specs.SaidLeft.{CanBeSaidOf, IsSaidOf, IsReplyOf, next_end, IsPartFrom, BeginsSaid}
pub use Rattle.ks_script.specs.RunLeft.{SpellsRun, AreRun, Replies, next_key, IsPairFrom, BeginsReplies}
pub use Rattle.ks_script.specs.Script.{IsLineOf, line_text, IsScript, script_lines, SpellsScript, AreScript, calls_in, parts_of, parts_in}
pub use Rattle.ks_script.specs.Version.{version_line, value_limit, callers_limit}
pub use Rattle.ks_script.specs.declared.fault.TextFault.{TextFault}
pub use Rattle.ks_script.specs.declared.fault.RunFault.{RunFault}
pub use Rattle.ks_script.specs.declared.fault.TextFault.TheVariants.{Refused, Memory}
pub use Rattle.ks_script.specs.declared.version.Version.{Version}
pub use Rattle.ks_script.specs.declared.version.Version.TheVariants.{First, Second, Third, Fourth}
pub use Rattle.std.specs.Prelude.{All, IfOk, IsTrue}
pub use Rattle.std.specs.List.{flat_map}
pub use Rattle.std.proofs.lemmas.Grind.{flat_map-append}
pub use Rattle.std.proofs.lemmas.List.Elements.{All-append, All-cons, All-head, All-map, All-nil, All-push, All-same, All-tail, All-weaker}
pub use Rattle.ks_lines.specs.Lines.{AllBoth, AreAnswered, IsServedLine, MayAnswer}
pub use Rattle.ks_script.specs.Script.{caller_lines, ScriptOf}
pub use Rattle.ks_script.specs.Unfit.{IsUnfit, IsUnfitAt}
