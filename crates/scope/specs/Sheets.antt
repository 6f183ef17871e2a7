-- Sheets computed: 01's worked one, by hand from 01 and the papers one for each rule of 'The sheet', from 02 the pressure at its ends and the exact angle, and those of full fields.
use Rattle.std.specs.Prelude.{◌≡◌, refl, List, [], ◌∷◌, map, ℕ}
use Prim.Native.String.{String}
use Rattle.codec.specs.Signed.{to_signed}
use Rattle.codec.specs.Radix.{total, cut, join}
use Rattle.codec.specs.Codec.{number}
use Rattle.codec.specs.Line.{to_num, limit, widths, count, clear, nums, in_limits, cells, line}
use Rattle.codec.specs.Item.{slots, slots_of, lines_of, beside, chain, is_one, subfields, item}
use Rattle.codec.specs.Field.{first_flag, next_flags, uncons, row, all_zero, indicator, body}
use Rattle.codec.specs.Meaning.{len_of}
use Rattle.codec.specs.Frame.{settle, read_frame}
use Rattle.papers.specs.Cat048.{cat048}
use Rattle.papers.specs.Cat021.{cat021}
use Rattle.papers.specs.Cat007.{cat007}
use Rattle.papers.specs.Names.{text, names048, names021, names007, names_of}
use Rattle.papers.specs.Papers.{known, paper_of}
use Rattle.scope.specs.Angle.{rounded, udeg_of, left_of}
use Rattle.scope.specs.Pressure.{eq_int, sense_of}
use Rattle.scope.specs.Reading.{field_of}
use Rattle.scope.specs.Sheet as sheet
use Rattle.scope.specs.Sheet.{digits_of, decimal, signed_decimal, number_text, numbers_text, parts_there, subfields_there, lines_there, lines_text, chain_text, item_text, row_text, items_text, refusal_text, field_text, sheet_of}

-- the category octet and the field, and the text
pub record Printed : Type 0 where
  pub input : List ℕ
  pub lines : String

unfoldable pub printed : List Printed
printed =
    -- 01's own
    record { input = 0x30 ∷ 0x06 ∷ 0x28 ∷ 0x06 ∷ 0x01 ∷ 0x00 ∷ 0x00 ∷ []; lines = "cat=48\nlen=6\nitems=M4E,ERR\nM4E=3\nERR=65536\nend=ok\n" }
    -- no items; empty input; a lone category octet; an unknown category; a refusal within the field
    ∷ record { input = 0x30 ∷ 0x02 ∷ 0x00 ∷ []; lines = "cat=48\nlen=2\nitems=\nend=ok\n" }
    ∷ record { input = []; lines = "cat=none\nrefused=2\nat=0\n" }
    ∷ record { input = 0x30 ∷ []; lines = "cat=48\nrefused=2\nat=0\n" }
    ∷ record { input = 0xFF ∷ 0x02 ∷ 0x00 ∷ []; lines = "cat=255\nrefused=1\nat=0\n" }
    ∷ record { input = 0x30 ∷ 0x04 ∷ 0x40 ∷ 0x01 ∷ 0x01 ∷ []; lines = "cat=48\nrefused=7\nat=3\n" }
    -- an angle and what it leaves behind each latitude and longitude; presence flags are not listed
    ∷ record {
      input = 0x30 ∷ 0x09 ∷ 0x80 ∷ 0x20 ∷ 0x40 ∷ 0x00 ∷ 0x00 ∷ 0xFF ∷ 0xC0 ∷ 0x00 ∷ [];
      lines = "cat=48\nlen=9\nitems=MD5\nMD5.POS.LAT=4194304\nMD5.POS.LAT.udeg=90000000\nMD5.POS.LAT.left=0\nMD5.POS.LON=-16384\nMD5.POS.LON.udeg=-351563\nMD5.POS.LON.left=16384\nend=ok\n";
    }
    -- a signed number below 0, and a subfield with several numbers
    ∷ record { input = 0x30 ∷ 0x05 ∷ 0x80 ∷ 0x10 ∷ 0x3F ∷ 0xD8 ∷ []; lines = "cat=48\nlen=5\nitems=MD5\nMD5.GA.RES=0\nMD5.GA.GA=-40\nend=ok\n" }
    ∷ record { input = 0x30 ∷ 0x04 ∷ 0x80 ∷ 0x04 ∷ 0xFF ∷ []; lines = "cat=48\nlen=4\nitems=MD5\nMD5.TOS=-1\nend=ok\n" }
    -- the chain of an item that can have several parts, also where a part is empty
    ∷ record { input = 0x30 ∷ 0x04 ∷ 0x40 ∷ 0x01 ∷ 0x00 ∷ []; lines = "cat=48\nlen=4\nitems=M5N\nM5N.chain=2\nend=ok\n" }
    ∷ record { input = 0x30 ∷ 0x05 ∷ 0x40 ∷ 0x01 ∷ 0x80 ∷ 0x1F ∷ []; lines = "cat=48\nlen=5\nitems=M5N\nM5N.chain=2\nM5N.FOM=31\nend=ok\n" }
    -- the pressure in tenths; an item without subfields and with one number, or with several
    ∷ record { input = 0x15 ∷ 0x07 ∷ 0xA2 ∷ 0x08 ∷ 0x55 ∷ 0x34 ∷ 0xFF ∷ 0xFF ∷ []; lines = "cat=21\nlen=7\nitems=BPS,NAV,TNH\nBPS=2133\nBPS.tenths=10133\nBPS.sense=equal\nNAV.AP=0\nNAV.VN=0\nNAV.AH=1\nNAV.AM=1\nNAV.MFM#EP=0\nNAV.MFM#VAL=1\nTNH=65535\nend=ok\n" }
    ∷ record { input = 0x15 ∷ 0x04 ∷ 0x08 ∷ 0x80 ∷ 0x54 ∷ []; lines = "cat=21\nlen=4\nitems=SGV\nSGV.chain=1\nSGV.STP=1\nSGV.HTS=0\nSGV.HTT=0\nSGV.HRD=0\nSGV.GSS=42\nend=ok\n" }
    ∷ record { input = 0x07 ∷ 0x06 ∷ 0x80 ∷ 0x3F ∷ 0xFF ∷ 0x00 ∷ 0x01 ∷ []; lines = "cat=7\nlen=6\nitems=TA\nTA.TAmax=-1\nTA.TAmin=1\nend=ok\n" }
    -- 02, Ask 1: the pressure at the two ends, and beside them
    ∷ record { input = 0x15 ∷ 0x04 ∷ 0x80 ∷ 0x00 ∷ 0x00 ∷ []; lines = "cat=21\nlen=4\nitems=BPS\nBPS=0\nBPS.tenths=8000\nBPS.sense=atmost\nend=ok\n" }
    ∷ record { input = 0x15 ∷ 0x04 ∷ 0x80 ∷ 0x00 ∷ 0x01 ∷ []; lines = "cat=21\nlen=4\nitems=BPS\nBPS=1\nBPS.tenths=8001\nBPS.sense=equal\nend=ok\n" }
    ∷ record { input = 0x15 ∷ 0x04 ∷ 0x80 ∷ 0x0F ∷ 0xFE ∷ []; lines = "cat=21\nlen=4\nitems=BPS\nBPS=4094\nBPS.tenths=12094\nBPS.sense=equal\nend=ok\n" }
    ∷ record { input = 0x15 ∷ 0x04 ∷ 0x80 ∷ 0x0F ∷ 0xFF ∷ []; lines = "cat=21\nlen=4\nitems=BPS\nBPS=4095\nBPS.tenths=12095\nBPS.sense=atleast\nend=ok\n" }
    -- 02, Ask 7: the exact angle of 1, of a half and of its neighbours, and at the ends
    ∷ record {
      input = 0x30 ∷ 0x09 ∷ 0x80 ∷ 0x20 ∷ 0x00 ∷ 0x40 ∷ 0x00 ∷ 0x00 ∷ 0x00 ∷ 0x01 ∷ [];
      lines = "cat=48\nlen=9\nitems=MD5\nMD5.POS.LAT=16384\nMD5.POS.LAT.udeg=351563\nMD5.POS.LAT.left=-16384\nMD5.POS.LON=1\nMD5.POS.LON.udeg=21\nMD5.POS.LON.left=14997\nend=ok\n";
    }
    ∷ record {
      input = 0x30 ∷ 0x09 ∷ 0x40 ∷ 0x20 ∷ 0x00 ∷ 0x3F ∷ 0xFF ∷ 0x00 ∷ 0x40 ∷ 0x01 ∷ [];
      lines = "cat=48\nlen=9\nitems=M5N\nM5N.chain=1\nM5N.POS.LAT=16383\nM5N.POS.LAT.udeg=351541\nM5N.POS.LAT.left=1387\nM5N.POS.LON=16385\nM5N.POS.LON.udeg=351584\nM5N.POS.LON.left=-1387\nend=ok\n";
    }
    ∷ record {
      input = 0x07 ∷ 0x09 ∷ 0x40 ∷ 0x20 ∷ 0xC0 ∷ 0x00 ∷ 0x00 ∷ 0x7F ∷ 0xFF ∷ 0xFF ∷ [];
      lines = "cat=7\nlen=9\nitems=M5N\nM5N.chain=1\nM5N.POS.LAT=-4194304\nM5N.POS.LAT.udeg=-90000000\nM5N.POS.LAT.left=0\nM5N.POS.LON=8388607\nM5N.POS.LON.udeg=179999979\nM5N.POS.LON.left=-14997\nend=ok\n";
    }
    -- every item, part and subfield of each category, as tests/specimens.py made them from the papers
    ∷ record {
      input = 0x30 ∷ 0x34 ∷ 0xF8 ∷ 0xFE ∷ 0x3E ∷ 0x3C ∷ 0xFD ∷ 0x1C ∷ 0x2E ∷ 0xC5 ∷ 0x14 ∷ 0xA6 ∷ 0xA1 ∷ 0x49 ∷ 0xD8 ∷ 0x3F ∷ 0xD8 ∷ 0x4F ∷ 0x31 ∷ 0x98 ∷ 0x03 ∷ 0xFF ∷ 0x80 ∷ 0xAE ∷ 0x28 ∷ 0xD0 ∷ 0x05 ∷ 0xC8 ∷ 0xDA ∷ 0x42 ∷ 0xEE ∷ 0xAD ∷ 0xF7 ∷ 0x5F ∷ 0x7F ∷ 0xDB ∷ 0xCD ∷ 0xD1 ∷ 0xB5 ∷ 0x1D ∷ 0x13 ∷ 0x06 ∷ 0xF0 ∷ 0x81 ∷ 0xCD ∷ 0x73 ∷ 0xC0 ∷ 0x09 ∷ 0xDD ∷ 0xE3 ∷ 0x99 ∷ 0xA4 ∷ 0x6D ∷ [];
      lines = "cat=48\nlen=52\nitems=MD5,M5N,M4E,RPC,ERR\nMD5.SUM.M5=0\nMD5.SUM.ID=0\nMD5.SUM.DA=1\nMD5.SUM.M1=1\nMD5.SUM.M2=1\nMD5.SUM.M3=1\nMD5.SUM.MC=1\nMD5.PMN.PIN=15613\nMD5.PMN.NAV=0\nMD5.PMN.NAT=28\nMD5.PMN.MIS=46\nMD5.POS.LAT=-3861338\nMD5.POS.LAT.udeg=-82855325\nMD5.POS.LAT.left=8350\nMD5.POS.LON=-6207016\nMD5.POS.LON.udeg=-133188114\nMD5.POS.LON.left=-5448\nMD5.GA.RES=0\nMD5.GA.GA=-40\nMD5.EM1.V=0\nMD5.EM1.G=1\nMD5.EM1.L=0\nMD5.EM1.EM1=3889\nMD5.TOS=-104\nMD5.XP.XP=0\nMD5.XP.X5=0\nMD5.XP.XC=0\nMD5.XP.X3=0\nMD5.XP.X2=1\nMD5.XP.X1=1\nM5N.chain=2\nM5N.SUM.M5=1\nM5N.SUM.ID=0\nM5N.SUM.DA=1\nM5N.SUM.M1=0\nM5N.SUM.M2=1\nM5N.SUM.M3=1\nM5N.SUM.MC=1\nM5N.PMN.PIN=10448\nM5N.PMN.NOV=0\nM5N.PMN.NO=1480\nM5N.POS.LAT=-2473234\nM5N.POS.LAT.udeg=-53069844\nM5N.POS.LAT.left=-8058\nM5N.POS.LON=-5376161\nM5N.POS.LON.udeg=-115359900\nM5N.POS.LON.left=75\nM5N.GA.RES=1\nM5N.GA.GA=-37\nM5N.EM1.V=1\nM5N.EM1.G=1\nM5N.EM1.L=0\nM5N.EM1.EM1=3537\nM5N.TOS=-75\nM5N.XP.XP=0\nM5N.XP.X5=1\nM5N.XP.XC=1\nM5N.XP.X3=1\nM5N.XP.X2=0\nM5N.XP.X1=1\nM5N.FOM=19\nM4E=3\nRPC.SCO=129\nRPC.SCR=52595\nRPC.RW=49161\nRPC.AR=56803\nERR=10069101\nend=ok\n";
    }
    ∷ record {
      input = 0x15 ∷ 0x1F ∷ 0xFF ∷ 0x0E ∷ 0x01 ∷ 0x03 ∷ 0xAA ∷ 0xAC ∷ 0xFF ∷ 0xE9 ∷ 0x35 ∷ 0xB8 ∷ 0xB7 ∷ 0xFD ∷ 0xC1 ∷ 0xDF ∷ 0x5F ∷ 0xFC ∷ 0xB6 ∷ 0xEA ∷ 0xFC ∷ 0xFA ∷ 0x2A ∷ 0xDD ∷ 0x07 ∷ 0xFC ∷ 0x2C ∷ 0xCB ∷ 0x3B ∷ 0x1C ∷ 0x0C ∷ 0xB5 ∷ [];
      lines = "cat=21\nlen=31\nitems=BPS,SelH,NAV,GAO,SGV,STA,TNH,MES\nBPS=3585\nBPS.tenths=11585\nBPS.sense=equal\nSelH.HRD=0\nSelH.Stat=0\nSelH.SelH=938\nNAV.AP=1\nNAV.VN=0\nNAV.AH=1\nNAV.AM=0\nNAV.MFM#EP=1\nNAV.MFM#VAL=1\nGAO.Lateral=7\nGAO.Longitudinal=31\nSGV.chain=2\nSGV.STP=1\nSGV.HTS=1\nSGV.HTT=1\nSGV.HRD=0\nSGV.GSS=1178\nSGV.HGT=92\nSTA.chain=6\nSTA.ES=1\nSTA.UAT=0\nSTA.RCE#EP=1\nSTA.RCE#VAL=2\nSTA.RRL#EP=1\nSTA.RRL#VAL=1\nSTA.PS3#EP=1\nSTA.PS3#VAL=7\nSTA.TPW#EP=1\nSTA.TPW#VAL=2\nSTA.TSI#EP=1\nSTA.TSI#VAL=2\nSTA.MUO#EP=0\nSTA.MUO#VAL=0\nSTA.RWC#EP=0\nSTA.RWC#VAL=0\nSTA.DAA#EP=1\nSTA.DAA#VAL=2\nSTA.DF17CA#EP=1\nSTA.DF17CA#VAL=7\nSTA.SVH#EP=0\nSTA.SVH#VAL=2\nSTA.CATC#EP=1\nSTA.CATC#VAL=7\nSTA.TAO#EP=1\nSTA.TAO#VAL=31\nTNH=46826\nMES.SUM.M5=1\nMES.SUM.ID=1\nMES.SUM.DA=1\nMES.SUM.M1=1\nMES.SUM.M2=1\nMES.SUM.M3=0\nMES.SUM.MC=1\nMES.SUM.PO=0\nMES.PNO.PIN=10973\nMES.PNO.NO=2044\nMES.EM1.V=0\nMES.EM1.L=1\nMES.EM1.EM1=3275\nMES.XP.XP=1\nMES.XP.X5=1\nMES.XP.XC=1\nMES.XP.X3=0\nMES.XP.X2=1\nMES.XP.X1=1\nMES.FOM=28\nMES.M2.V=0\nMES.M2.L=0\nMES.M2.M2=3253\nend=ok\n";
    }
    ∷ record {
      input = 0x07 ∷ 0x26 ∷ 0xF8 ∷ 0x2E ∷ 0xF1 ∷ 0x20 ∷ 0x56 ∷ 0xFF ∷ 0x80 ∷ 0x48 ∷ 0x20 ∷ 0xB8 ∷ 0x0E ∷ 0x9C ∷ 0xC4 ∷ 0x35 ∷ 0x96 ∷ 0x85 ∷ 0x6B ∷ 0x8B ∷ 0x7F ∷ 0xF9 ∷ 0x6A ∷ 0xED ∷ 0xB8 ∷ 0x28 ∷ 0x16 ∷ 0x04 ∷ 0xF0 ∷ 0xDB ∷ 0xE9 ∷ 0x4B ∷ 0xA5 ∷ 0x77 ∷ 0xF3 ∷ 0x0B ∷ 0xEA ∷ 0x9E ∷ 0x7A ∷ [];
      lines = "cat=7\nlen=38\nitems=TA,M5N,M4E,RPC,ERR\nTA.TAmax=-4367\nTA.TAmin=-8106\nM5N.chain=2\nM5N.SUM.M5=0\nM5N.SUM.ID=1\nM5N.SUM.DA=0\nM5N.SUM.M1=0\nM5N.SUM.M2=1\nM5N.SUM.M3=0\nM5N.SUM.MC=0\nM5N.PMN.PIN=8376\nM5N.PMN.NOV=1\nM5N.PMN.NO=1692\nM5N.POS.LAT=-3918442\nM5N.POS.LAT.udeg=-84080644\nM5N.POS.LAT.left=11342\nM5N.POS.LON=-8033397\nM5N.POS.LON.udeg=-172377999\nM5N.POS.LON.left=5607\nM5N.GA.RES=1\nM5N.GA.GA=-7\nM5N.EM1.V=0\nM5N.EM1.G=1\nM5N.EM1.L=1\nM5N.EM1.EM1=2797\nM5N.TOS=-72\nM5N.XP.XP=1\nM5N.XP.X5=0\nM5N.XP.XC=1\nM5N.XP.X3=0\nM5N.XP.X2=0\nM5N.XP.X1=0\nM5N.FOM=22\nM4E=2\nRPC.SCO=219\nRPC.SCR=59723\nRPC.RW=42359\nRPC.AR=62219\nERR=15375994\nend=ok\n";
    }
    ∷ []

pub sheets_printed : map (λ (p : Printed). sheet_of p.input) printed ≡ map (λ (p : Printed). text p.lines) printed
unfolding printed sheet_of field_text refusal_text row_text items_text item_text chain_text lines_text lines_there parts_there subfields_there numbers_text number_text signed_decimal decimal digits_of sheet.key_line udeg_of left_of rounded sense_of eq_int names_of names048 names021 names007 lines_of field_of known paper_of cat048 cat021 cat007 len_of settle read_frame body indicator all_zero row first_flag next_flags uncons slots item chain beside subfields is_one slots_of line cells number to_num to_signed limit widths count clear nums in_limits total cut join
sheets_printed = refl
