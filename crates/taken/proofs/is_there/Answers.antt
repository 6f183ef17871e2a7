-- `taken::is_there` meets its contract: the words are the heads of the lines. Assumes nothing.
use mathlib.Core.Path.{◌≡◌, refl}
use Rattle.papers.specs.Cat048.{cat048}
use Rattle.papers.specs.Cat021.{cat021}
use Rattle.papers.specs.Cat007.{cat007}
use Rattle.papers.specs.Names.{text, names048, names021, names007}
use Rattle.lengths.specs.Lines.{items}
use Rattle.sheet.specs.Items.{named}
use Rattle.walk.specs.Lines.{words_in}
use Rattle.guess.specs.Guess.{key_text, head_of}
use Rattle.taken.specs.Tables.{heads, heads_in, line_heads}
use Rattle.taken.specs.Laws.Tables.{head_word}
use Rattle.taken.specs.Laws.Lines.{there_none, there_some}
use Rattle.taken.proofs.is_there.Goals as goal

heads_are : words_in (text " MD5.SUM.M5= MD5.PMN.PIN= MD5.POS.LAT= MD5.GA.RES= MD5.EM1.V= MD5.TOS= MD5.XP.XP=   M5N.SUM.M5= M5N.PMN.PIN= M5N.POS.LAT= M5N.GA.RES= M5N.EM1.V= M5N.TOS= M5N.XP.XP= M5N.FOM=   RPC.SCO= RPC.SCR= RPC.RW= RPC.AR=                MES.SUM.M5= MES.PNO.PIN= MES.EM1.V= MES.XP.XP= MES.FOM= MES.M2.V= ") ≡ heads
unfolding words_in heads heads_in line_heads head_of key_text items cat048 cat021 cat007 named names048 names021 names007
heads_are = refl

pub returns-then-n-eq0 : goal.returns-then-n-eq0
returns-then-n-eq0 c = let a = c.args in there_none a.b a.n a.t.now c.if-n-eq0.true

pub returns : goal.returns
returns c =
    let a = c.args in
    there_some a.b a.n a.t.now c.if-n-eq0.false c.opens.ensures (head_word _ heads_are a.b c.word.ensures)
