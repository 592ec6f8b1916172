-- The four-byte signatures of ICC.1:2022 that the profiles hold, as byte strings. Assumes nothing.
use Rattle.std.specs.Prelude.{ℕ, List}
use Rattle.buffer.specs.Ascii.{ascii}

-- ---- tags (9.2)

abbrev pub desc : List ℕ
desc = ascii "desc"

abbrev pub cprt : List ℕ
cprt = ascii "cprt"

abbrev pub wtpt : List ℕ
wtpt = ascii "wtpt"

abbrev pub chad : List ℕ
chad = ascii "chad"

abbrev pub cicp : List ℕ
cicp = ascii "cicp"

abbrev pub r_xyz : List ℕ
r_xyz = ascii "rXYZ"

abbrev pub g_xyz : List ℕ
g_xyz = ascii "gXYZ"

abbrev pub b_xyz : List ℕ
b_xyz = ascii "bXYZ"

abbrev pub r_trc : List ℕ
r_trc = ascii "rTRC"

abbrev pub g_trc : List ℕ
g_trc = ascii "gTRC"

abbrev pub b_trc : List ℕ
b_trc = ascii "bTRC"

abbrev pub k_trc : List ℕ
k_trc = ascii "kTRC"

abbrev pub A2B0 : List ℕ
A2B0 = ascii "A2B0"

abbrev pub B2A0 : List ℕ
B2A0 = ascii "B2A0"

-- ---- tag types (10); `cicp` is also the type of its tag

abbrev pub mluc : List ℕ
mluc = ascii "mluc"

abbrev pub XYZ : List ℕ
XYZ = ascii "XYZ "

abbrev pub sf32 : List ℕ
sf32 = ascii "sf32"

abbrev pub para : List ℕ
para = ascii "para"

abbrev pub m_ab : List ℕ
m_ab = ascii "mAB "

abbrev pub m_ba : List ℕ
m_ba = ascii "mBA "

-- ---- the header's (7.2)

abbrev pub jxl : List ℕ
jxl = ascii "jxl "

abbrev pub acsp : List ℕ
acsp = ascii "acsp"

abbrev pub APPL : List ℕ
APPL = ascii "APPL"

abbrev pub mntr : List ℕ
mntr = ascii "mntr"

abbrev pub scnr : List ℕ
scnr = ascii "scnr"

abbrev pub RGB : List ℕ
RGB = ascii "RGB "

abbrev pub GRAY : List ℕ
GRAY = ascii "GRAY"
