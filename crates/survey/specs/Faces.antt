-- Faces of the code, read as triples.
use Rattle.mesh.specs.Tetrahedra.{Triple}
use Rattle.survey.specs.declared.face.Face.{Face}

-- the three point numbers of a face
abbrev pub triple_of : Face → Triple
triple_of f = record { x = f.x; y = f.y; z = f.z }
