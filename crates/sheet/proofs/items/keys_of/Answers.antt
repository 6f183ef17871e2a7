-- `sheet::items::keys_of` meets its contract: the keys of each arm are the names of its item. Assumes nothing.
use mathlib.Core.Path.{refl}
use Rattle.codec.specs.Item.{lines_of}
use Rattle.papers.specs.Cat048.{cat048}
use Rattle.papers.specs.Cat021.{cat021}
use Rattle.papers.specs.Cat007.{cat007}
use Rattle.papers.specs.Names.{text, names048, names021, names007}
use Rattle.lengths.specs.Lines.{items}
use Rattle.shapes.specs.Shapes.{item_at}
use Rattle.sheet.specs.Laws.Keys.{groups}
use Rattle.sheet.specs.Items.{named, named_at}
use Rattle.sheet.specs.Laws.Items.{keys_as}
use Rattle.sheet.proofs.items.keys_of.Goals as goal

pub returns-in-0 : goal.returns-in-0
unfolding groups named_at named names048 names021 names007 item_at items cat048 cat021 cat007 lines_of
returns-in-0 c = keys_as 0 c.in-0.is (text "::::::: MD5.SUM.M5=MD5.SUM.ID=MD5.SUM.DA=MD5.SUM.M1=MD5.SUM.M2=MD5.SUM.M3=MD5.SUM.MC= MD5.PMN.PIN=MD5.PMN.NAV=MD5.PMN.NAT=MD5.PMN.MIS= MD5.POS@ MD5.GA> MD5.EM1.V=MD5.EM1.G=MD5.EM1.L=MD5.EM1.EM1= MD5.TOS< MD5.XP.XP=MD5.XP.X5=MD5.XP.XC=MD5.XP.X3=MD5.XP.X2=MD5.XP.X1= ") refl tt

pub returns-in-1 : goal.returns-in-1
unfolding groups named_at named names048 names021 names007 item_at items cat048 cat021 cat007 lines_of
returns-in-1 c = keys_as 1 c.in-1.is (text "::::::: : M5N.SUM.M5=M5N.SUM.ID=M5N.SUM.DA=M5N.SUM.M1=M5N.SUM.M2=M5N.SUM.M3=M5N.SUM.MC= M5N.PMN.PIN=M5N.PMN.NOV=M5N.PMN.NO= M5N.POS@ M5N.GA> M5N.EM1.V=M5N.EM1.G=M5N.EM1.L=M5N.EM1.EM1= M5N.TOS< M5N.XP.XP=M5N.XP.X5=M5N.XP.XC=M5N.XP.X3=M5N.XP.X2=M5N.XP.X1= M5N.FOM= ") refl tt

pub returns-in-2 : goal.returns-in-2
unfolding groups named_at named names048 names021 names007 item_at items cat048 cat021 cat007 lines_of
returns-in-2 c = keys_as 2 c.in-2.is (text "M4E= ") refl tt

pub returns-in-3 : goal.returns-in-3
unfolding groups named_at named names048 names021 names007 item_at items cat048 cat021 cat007 lines_of
returns-in-3 c = keys_as 3 c.in-3.is (text ":::: RPC.SCO= RPC.SCR= RPC.RW= RPC.AR= ") refl tt

pub returns-in-4 : goal.returns-in-4
unfolding groups named_at named names048 names021 names007 item_at items cat048 cat021 cat007 lines_of
returns-in-4 c = keys_as 4 c.in-4.is (text "ERR= ") refl tt

pub returns-in-5 : goal.returns-in-5
unfolding groups named_at named names048 names021 names007 item_at items cat048 cat021 cat007 lines_of
returns-in-5 c = keys_as 5 c.in-5.is (text "BPS? ") refl tt

pub returns-in-6 : goal.returns-in-6
unfolding groups named_at named names048 names021 names007 item_at items cat048 cat021 cat007 lines_of
returns-in-6 c = keys_as 6 c.in-6.is (text "SelH.HRD=SelH.Stat=SelH.SelH= ") refl tt

pub returns-in-7 : goal.returns-in-7
unfolding groups named_at named names048 names021 names007 item_at items cat048 cat021 cat007 lines_of
returns-in-7 c = keys_as 7 c.in-7.is (text "NAV.AP=NAV.VN=NAV.AH=NAV.AM=NAV.MFM#EP=NAV.MFM#VAL= ") refl tt

pub returns-in-8 : goal.returns-in-8
unfolding groups named_at named names048 names021 names007 item_at items cat048 cat021 cat007 lines_of
returns-in-8 c = keys_as 8 c.in-8.is (text "GAO.Lateral=GAO.Longitudinal= ") refl tt

pub returns-in-9 : goal.returns-in-9
unfolding groups named_at named names048 names021 names007 item_at items cat048 cat021 cat007 lines_of
returns-in-9 c = keys_as 9 c.in-9.is (text "SGV.STP=SGV.HTS=SGV.HTT=SGV.HRD=SGV.GSS= SGV.HGT= ") refl tt

pub returns-in-10 : goal.returns-in-10
unfolding groups named_at named names048 names021 names007 item_at items cat048 cat021 cat007 lines_of
returns-in-10 c = keys_as 10 c.in-10.is (text "STA.ES=STA.UAT=STA.RCE#EP=STA.RCE#VAL=STA.RRL#EP=STA.RRL#VAL= STA.PS3#EP=STA.PS3#VAL=STA.TPW#EP=STA.TPW#VAL= STA.TSI#EP=STA.TSI#VAL=STA.MUO#EP=STA.MUO#VAL=STA.RWC#EP=STA.RWC#VAL= STA.DAA#EP=STA.DAA#VAL=STA.DF17CA#EP=STA.DF17CA#VAL= STA.SVH#EP=STA.SVH#VAL=STA.CATC#EP=STA.CATC#VAL= STA.TAO#EP=STA.TAO#VAL= ") refl tt

pub returns-in-11 : goal.returns-in-11
unfolding groups named_at named names048 names021 names007 item_at items cat048 cat021 cat007 lines_of
returns-in-11 c = keys_as 11 c.in-11.is (text "TNH= ") refl tt

pub returns-in-12 : goal.returns-in-12
unfolding groups named_at named names048 names021 names007 item_at items cat048 cat021 cat007 lines_of
returns-in-12 c = keys_as 12 c.in-12.is (text ":::::: MES.SUM.M5=MES.SUM.ID=MES.SUM.DA=MES.SUM.M1=MES.SUM.M2=MES.SUM.M3=MES.SUM.MC=MES.SUM.PO= MES.PNO.PIN=MES.PNO.NO= MES.EM1.V=MES.EM1.L=MES.EM1.EM1= MES.XP.XP=MES.XP.X5=MES.XP.XC=MES.XP.X3=MES.XP.X2=MES.XP.X1= MES.FOM= MES.M2.V=MES.M2.L=MES.M2.M2= ") refl tt

pub returns-in-13 : goal.returns-in-13
unfolding groups named_at named names048 names021 names007 item_at items cat048 cat021 cat007 lines_of
returns-in-13 c = keys_as 13 c.in-13.is (text "TA.TAmax=TA.TAmin= ") refl tt
