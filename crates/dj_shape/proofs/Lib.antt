mod Facts
mod ShapeLaws
