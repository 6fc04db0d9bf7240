-- What a writer has posted, and what a reader has read.
use Rattle.std.specs.Prelude.{◌≡◌, ◌<◌, List, [], ◌∷◌, length, drop, IsTrue}
use Rattle.left_right.specs.Sides.{view}
use Rattle.left_right.specs.declared.Absorb.{Ghosts}
use Rattle.left_right.specs.declared.writer.Writer.{Writer}
use Rattle.ks_hints.specs.declared.hint.Hint.{Hint}
use Rattle.ks_hints.specs.declared.hints.Hints.{Hints}
use Rattle.ks_hints.specs.declared.reader.HintReader.{HintReader}
use Rattle.ks_hints.specs.declared.view.View.{View}
use Rattle.ks_hints.specs.declared.writer.HintWriter.{HintWriter}
use Rattle.ks_hints.specs.Hints.{list_after}
use Rattle.ks_hints.specs.Rule.{IsSeatedAt, seen_by}

-- the posts of a writer, newest first
abbrev pub posts_of : HintWriter → List Hint
posts_of w = (view w.writer.desk.place).seen

-- the posts that a reader has read, newest first: the writer's first ones, up to some post
abbrev pub read_by : HintReader → List Hint
read_by r = seen_by r.reader

-- the reader reads what this writer shows, or has no place from which to read
abbrev pub ReadsFrom : HintWriter → HintReader → Type 0
ReadsFrom w r = IsSeatedAt w.writer.desk.place.table_id r.reader

-- the writer has taken in one hint more than it shows
module _ {P A S : Type 0} {g : Ghosts Hints Hint S} where
  pub record MayShow (writer : Writer Hints Hint View P A S g) : Type 0 where
    pub hint : Hint
    pub waits : drop writer.behind writer.log.items ≡ hint ∷ []
    pub shows : writer.desk.shown.value.list.items ≡ list_after (view writer.desk.place).seen
    pub leads : 0 < length writer.desk.shown.value.list.items → IsTrue (view writer.desk.place).leads
