-- The words of the clauses of this crate, passed on from one place. It declares nothing.
pub use Rattle.std.specs.Char.{is_ascii_digit}
pub use Rattle.std.specs.Fmt.{decimal}
pub use Rattle.std.specs.List.{AllByRecursion, flat_map, sum_by}
pub use Rattle.std.specs.Str.{all_ascii_digits}
pub use Rattle.std.specs.Str.Parse.{digits_value}
pub use Rattle.arrayvec.specs.ArrayVec.{array_vec_len}
pub use Rattle.ks_history.specs.declared.Op.TheVariants.{Get}
pub use Rattle.ks_history.specs.declared.Reply.{Reply}
pub use Rattle.ks_history.specs.declared.Reply.TheVariants.{Value}
pub use Rattle.ks_keysets.specs.declared.Pair.{Pair}
pub use Rattle.ks_lines.specs.Asked.{AreServedLines}
pub use Rattle.ks_lines.specs.Lines.{AllBoth, IsReplyTo, IsServedLine}
pub use Rattle.ks_lines.specs.declared.Line.{Line}
pub use Rattle.ks_lines.specs.declared.Line.TheVariants.{Call, Scan}
pub use Rattle.ks_lines.specs.declared.Said.{Said}
pub use Rattle.ks_lines.specs.declared.parts.Part.{Part}
pub use Rattle.ks_script.specs.Ahead.{Lacks}
pub use Rattle.ks_script.specs.Checked.{AscendFrom, CheckedOf, IsAnswered, IsPair, IsPart, IsReply, IsRunOf}
pub use Rattle.ks_script.specs.CheckedTexts.{CheckedIn, FirstBadOfChecked}
pub use Rattle.ks_script.specs.Eight.{word_of}
pub use Rattle.ks_script.specs.Left.{HasBegun, HasLine, IsLineWithin, Stops}
pub use Rattle.ks_script.specs.Lined.{EndsLine, Lined, NotLined}
pub use Rattle.ks_script.specs.Lines.{ended, lines_of, text_of}
pub use Rattle.ks_script.specs.Numeral.{NoDigit, Sixteen}
pub use Rattle.ks_script.specs.Outside.{Grew, GrewByFront, Rose}
pub use Rattle.ks_script.specs.PackedCalls.{IsCallIn, KeepsCalls, call_in}
pub use Rattle.ks_script.specs.PackedReplies.{IsSaidIn, KeepsReplies, said_at, said_in}
pub use Rattle.ks_script.specs.Pieces.{Holds, Puts, Takes}
pub use Rattle.ks_script.specs.Plain.{IsOfCall, IsPlain, IsPrintable, number_of}
pub use Rattle.ks_script.specs.Reading.{Answers, Gives, Refuses, Says}
pub use Rattle.ks_script.specs.Reads.{NoneFirst, NotFirst, Reads, RefusedBehind}
pub use Rattle.ks_script.specs.Reasons.{Amiss, IsCheckedReason, IsReason}
pub use Rattle.ks_script.specs.Run.{Run, callers_from, map_lines, pair_line, pair_words, part_line, reply_line, reply_word, run_lines, run_text, said_lines, stop_line}
pub use Rattle.ks_script.specs.RunLeft.{AreRun, BeginsReplies, IsPairFrom, SpellsRun, next_key}
pub use Rattle.ks_script.specs.SaidLeft.{BeginsSaid, CanBeSaidOf, IsPartFrom, IsReplyOf, IsSaidOf}
pub use Rattle.ks_script.specs.Script.{IsLineOf, IsScript, ScriptOf, calls_in, line_text, parts_in, parts_of, script_lines}
pub use Rattle.ks_script.specs.ScriptTexts.{FirstBadOfScript, ScriptIn}
pub use Rattle.ks_script.specs.Unfit.{IsUnfitAt}
pub use Rattle.ks_script.specs.Unserved.{FirstUnserved}
pub use Rattle.ks_script.specs.Version.{version_line}
pub use Rattle.ks_script.specs.declared.version.Version.{Version}
